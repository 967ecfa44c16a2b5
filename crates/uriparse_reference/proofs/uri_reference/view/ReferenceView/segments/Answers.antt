use Rattle.std.proofs.Common.{subst}
use Rattle.uriparse_path.specs.Path.{IsListed}
use Rattle.uriparse_reference.proofs.lemmas.reading.ViewLemmas.{found_valid}
use Rattle.uriparse_reference.proofs.uri_reference.view.ReferenceView.segments.Goals as goal

pub returns-clause-listed : goal.returns-clause-listed
returns-clause-listed c = subst (λ v. IsListed v.parts.path.segments) c.self.view_is (found_valid _ _ _ _ _ _ _ _ _ c.self.invariant).is_path
