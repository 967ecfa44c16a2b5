use Rattle.std.proofs.Common.{subst}
use Rattle.uriparse_reference.specs.Reference.{Valid}
use Rattle.uriparse_reference.proofs.lemmas.reading.ViewLemmas.{found_valid}
use Rattle.uriparse_reference.proofs.uri_reference.view.ReferenceView.segment_count.Goals as goal

pub returns-clause-valid : goal.returns-clause-valid
returns-clause-valid c = subst (λ v. Valid v.parts) c.self.view_is (found_valid _ _ _ _ _ _ _ _ _ c.self.invariant)
