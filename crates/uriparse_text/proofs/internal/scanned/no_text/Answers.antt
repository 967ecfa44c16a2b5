use Rattle.std.proofs.Common.{[], refl}
use Rattle.std.proofs.lemmas.Bool.{false≢true}
use Rattle.uriparse_text.proofs.lemmas.classes.FaultLemmas.{IsIn-plain}
use Rattle.uriparse_text.proofs.internal.scanned.no_text.Goals as goal

pub invariant_of-result : goal.invariant_of-result
invariant_of-result g c = record { inside = IsIn-plain g.K.TextKind.class [] refl; canonical = λ h. absurd (false≢true h) }
