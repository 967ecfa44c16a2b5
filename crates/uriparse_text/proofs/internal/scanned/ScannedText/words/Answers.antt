use Rattle.std.proofs.Common.{[], None, refl, rules}
use Rattle.std.proofs.lemmas.Bool.{false≢true}
use Rattle.uriparse_text.proofs.lemmas.classes.FaultLemmas.{IsIn-plain}
use Rattle.uriparse_text.specs.Scanned.{AreWords}
use Rattle.uriparse_text.proofs.internal.scanned.ScannedText.words.Goals as goal

pub returns-in-0 : goal.returns-in-0
returns-in-0 g c =
    let none : AreWords g.K.TextKind.class g.K.TextKind.case 0 0 None =
    record { is_there = refl; is_long = refl; is_valid_text = record { inside = IsIn-plain g.K.TextKind.class [] refl; canonical = λ h. absurd (false≢true h) } } in
    search rules
