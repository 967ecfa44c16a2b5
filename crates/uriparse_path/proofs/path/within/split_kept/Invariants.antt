use Rattle.std.proofs.Common.{◌≡◌, ◌+◌, ◌≤◌, [], length}
use Rattle.uriparse_path.specs.Path.{max_segments}
use Rattle.uriparse_path.specs.Remaining.{process_all, remaining_of}
use Rattle.uriparse_path.specs.Within.{remaining_after}
use Rattle.uriparse_path.proofs.path.within.split_kept.Given as goal

abbrev pub invariant-segments : goal.invariant-segments
invariant-segments g l =
    (process_all (g.L.SegmentSequence.listed l.left) (remaining_after l.passed []) ≡ remaining_of (g.L.SegmentSequence.listed l.fn.segments))
    × (l.passed.double_dots + length (g.L.SegmentSequence.listed l.left) ≤ max_segments)
    × (length (g.L.SegmentSequence.listed l.left) ≤ length (g.L.SegmentSequence.listed l.fn.segments))

abbrev pub decreases-segments : goal.decreases-segments
decreases-segments g l = length (g.L.SegmentSequence.listed l.left)
