use Rattle.std.proofs.Common.{◌≤◌, ◌-◌, length}
use Rattle.uriparse_text.specs.Faults.{AllFine}
use Rattle.uriparse_text.proofs.internal.class.fault_by_runs.Given as goal

abbrev pub invariant-runs : goal.invariant-runs
invariant-runs l = (l.at ≤ length l.text) × AllFine l.class l.text 0 l.at

abbrev pub decreases-runs : goal.decreases-runs
decreases-runs l = length l.text - l.at
