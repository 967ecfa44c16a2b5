use Rattle.std.proofs.Common.{subst, ◌∙◌}
use Rattle.uriparse_reference.specs.Reference.{Valid}
use Rattle.uriparse_reference.proofs.lemmas.equality.EqualityLemmas.{tested}
use Rattle.uriparse_reference.proofs.lemmas.reading.ViewLemmas.{found_valid}
use Rattle.uriparse_reference.proofs.uri_reference.view.compare.ReferenceViewPartialEq.eq.Goals as goal

pub returns-else-eq : goal.returns-else-eq
returns-else-eq c =
    c.is_each_alike.ensures
    ∙ tested c.args.self.now.parts c.args.other.now.parts (subst (λ v. Valid v.parts) c.self.view_is (found_valid _ _ _ _ _ _ _ _ _ c.self.invariant))
    (subst (λ v. Valid v.parts) c.other.view_is (found_valid _ _ _ _ _ _ _ _ _ c.other.invariant))
