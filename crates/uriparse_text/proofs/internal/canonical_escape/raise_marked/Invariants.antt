use Rattle.uriparse_text.specs.Escapes.{AreMarked, Raises}
use Rattle.uriparse_text.proofs.internal.canonical_escape.raise_marked.Given as goal

abbrev pub invariant-marks : goal.invariant-marks
invariant-marks l = AreMarked l.text l.at l.left × Raises l.initial.text l.text

abbrev pub decreases-marks : goal.decreases-marks
decreases-marks l = l.left
