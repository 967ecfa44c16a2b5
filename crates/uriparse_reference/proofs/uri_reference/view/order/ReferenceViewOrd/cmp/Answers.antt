use Rattle.std.proofs.Common.{◌∙◌}
use Rattle.uriparse_reference.proofs.lemmas.equality.OrderLemmas.{ordered}
use Rattle.uriparse_reference.proofs.uri_reference.view.order.ReferenceViewOrd.cmp.Goals as goal

pub returns-clause-key : goal.returns-clause-key
returns-clause-key c =
    let valid = c.compare_each.ensures.valid in
    c.compare_each.ensures.test ∙ ordered c.args.self.now.parts c.args.other.now.parts valid.0 valid.1
