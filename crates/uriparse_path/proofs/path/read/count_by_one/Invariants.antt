use Rattle.std.proofs.Common.{◌≤◌, ◌-◌, length}
use Rattle.uriparse_path.proofs.lemmas.reading.CountingWalkLemmas.{IsReached, IsRun}
use Rattle.uriparse_path.proofs.path.read.count_by_one.Given as goal

abbrev pub invariant-runs : goal.invariant-runs
invariant-runs l = (l.at ≤ length l.text) × IsReached l.limit l.ends l.text l.count l.at

abbrev pub decreases-runs : goal.decreases-runs
decreases-runs l = length l.text - l.at

abbrev pub invariant-marks : goal.invariant-marks
invariant-marks l = IsRun l.limit l.ends l.text l.at l.len l.count l.left

abbrev pub decreases-marks : goal.decreases-marks
decreases-marks l = l.left
