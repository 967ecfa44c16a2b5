use Rattle.std.proofs.Common.{◌∙◌}
use Rattle.uriparse_reference.proofs.lemmas.equality.EqualityLemmas.{key_compared, tested}
use Rattle.uriparse_reference.proofs.uri_reference.URIReferencePartialEq.eq.Goals as goal

pub returns-clause-key : goal.returns-clause-key
returns-clause-key c =
    let valid = c.is_each_alike.ensures.valid in
    c.is_each_alike.ensures.test ∙ tested c.args.self.now c.args.other.now valid.0 valid.1

pub returns-clause-same : goal.returns-clause-same
returns-clause-same c =
    let valid = c.is_each_alike.ensures.valid in
    key_compared c.args.self.now c.args.other.now c.is_each_alike.result
    (c.is_each_alike.ensures.test ∙ tested c.args.self.now c.args.other.now valid.0 valid.1)
