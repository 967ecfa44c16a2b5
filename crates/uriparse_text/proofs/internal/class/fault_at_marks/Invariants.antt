use Rattle.uriparse_text.proofs.lemmas.classes.FaultByByteLemmas.{AreLeft}
use Rattle.uriparse_text.proofs.internal.class.fault_at_marks.Given as goal

abbrev pub invariant-marks : goal.invariant-marks
invariant-marks l = AreLeft l.fn.class l.text l.from l.len l.left

abbrev pub decreases-marks : goal.decreases-marks
decreases-marks l = l.left
