use Rattle.std.proofs.Common.{◌≡◌, length, ◌-◌, vec_len, vec_capacity}
use Rattle.std.specs.List.{list_any}
use Rattle.uriparse_path.specs.Counts.{begins_with_dot}
use Rattle.uriparse_path.proofs.lemmas.reading.CuttingWalkLemmas.{IsCutTo, IsCutRun}
use Rattle.uriparse_path.proofs.path.read.split_segments.Given as goal

abbrev pub invariant-runs : goal.invariant-runs
invariant-runs l =
    IsCutTo l.text l.segments.items l.start l.at
    × (l.dotted ≡ list_any begins_with_dot l.segments.items)
    × (vec_len l.segments ≡ length l.segments.items)
    × (vec_capacity l.segments ≡ l.count)

abbrev pub decreases-runs : goal.decreases-runs
decreases-runs l = length l.text - l.at

abbrev pub invariant-marks : goal.invariant-marks
invariant-marks l =
    IsCutRun l.text l.segments.items l.start l.at l.len l.left
    × (l.dotted ≡ list_any begins_with_dot l.segments.items)
    × (vec_len l.segments ≡ length l.segments.items)
    × (vec_capacity l.segments ≡ l.count)

abbrev pub decreases-marks : goal.decreases-marks
decreases-marks l = l.left
