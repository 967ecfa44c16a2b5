use Rattle.std.proofs.Common.{◌≤◌, ◌-◌, length}
use Rattle.uriparse_text.specs.Faults.{AllFine}
use Rattle.uriparse_text.proofs.internal.class.fault_by_one.Given as goal

abbrev pub invariant-bytes : goal.invariant-bytes
invariant-bytes l = (l.at ≤ length l.text) × AllFine l.class l.text 0 l.at

abbrev pub decreases-bytes : goal.decreases-bytes
decreases-bytes l = length l.text - l.at
