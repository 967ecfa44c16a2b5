use Rattle.std.proofs.Common.{◌∙◌}
use Rattle.uriparse_reference.proofs.lemmas.equality.EqualityLemmas.{key_compared, keys_swapped}
use Rattle.uriparse_reference.proofs.uri_reference.URIReference.eq_view.Goals as goal

pub returns-clause-key : goal.returns-clause-key
returns-clause-key c = c.eq_reference.ensures.key ∙ keys_swapped c.args.view.now.parts c.args.self.now

pub returns-clause-same : goal.returns-clause-same
returns-clause-same c = key_compared c.args.self.now c.args.view.now.parts c.eq_reference.result (returns-clause-key c)
