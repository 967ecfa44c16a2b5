use Rattle.std.proofs.Common.{subst}
use Rattle.uriparse_reference.specs.Reference.{Spells, Valid}
use Rattle.uriparse_reference.specs.View.{Viewed}
use Rattle.uriparse_reference.proofs.lemmas.reading.ViewLemmas.{found_spelled, found_valid}
use Rattle.uriparse_reference.proofs.uri_reference.view.ReferenceView.assert_valid.Goals as goal

pub returns-clause-spelled : goal.returns-clause-spelled
returns-clause-spelled c = subst (λ (v : Viewed). Spells v.text v.parts) c.self.view_is (found_spelled _ _ _ _ _ _ _ _ _ c.self.invariant)

pub returns-clause-valid : goal.returns-clause-valid
returns-clause-valid c = subst (λ (v : Viewed). Valid v.parts) c.self.view_is (found_valid _ _ _ _ _ _ _ _ _ c.self.invariant)
