use Rattle.std.proofs.Common.{◌≡◌, ◌≤◌, ◌-◌, length}
use Rattle.uriparse_path.proofs.lemmas.reading.CountingWalkLemmas.{IsReached, IsSweep}
use Rattle.uriparse_path.proofs.lemmas.reading.NoEscapeLemmas.{IsFree, IsFreeRun}
use Rattle.uriparse_path.proofs.path.read.count_segments.Given as goal

abbrev pub invariant-runs : goal.invariant-runs
invariant-runs l = (l.at ≤ length l.text) × IsReached l.limit l.ends l.text l.count l.at × (l.escaped ≡ 0 → IsFree l.text l.at)

abbrev pub decreases-runs : goal.decreases-runs
decreases-runs l = length l.text - l.at

abbrev pub invariant-marks : goal.invariant-marks
invariant-marks l = IsSweep l.limit l.ends l.text l.at l.len l.slashes l.count l.left × (l.escaped ≡ 0 → IsFreeRun l.text l.at l.len l.left)

abbrev pub decreases-marks : goal.decreases-marks
decreases-marks l = l.left
