use Rattle.std.proofs.Common.{subst, ◌∙◌}
use Rattle.uriparse_reference.specs.Reference.{Valid}
use Rattle.uriparse_reference.proofs.lemmas.equality.EqualityLemmas.{key_compared, tested}
use Rattle.uriparse_reference.proofs.uri_reference.view.ReferenceView.eq_reference.Goals as goal

pub returns-clause-key : goal.returns-clause-key
returns-clause-key c =
    c.has_each_of.ensures
    ∙ tested c.args.self.now.parts c.args.reference.now c.assert_valid.ensures.valid
    (subst Valid c.reference.view_is c.reference.invariant)

pub returns-clause-same : goal.returns-clause-same
returns-clause-same c = key_compared c.args.self.now.parts c.args.reference.now c.has_each_of.result (returns-clause-key c)
