use Rattle.std.proofs.Common.{◌≡◌, false, length}
use Rattle.uriparse_path.specs.Normal.{are_normal}
use Rattle.uriparse_path.proofs.path.rules.are_canonical.Given as goal

abbrev pub invariant-segments : goal.invariant-segments
invariant-segments g l = are_normal false (g.L.SegmentSequence.listed l.left) ≡ are_normal false (g.L.SegmentSequence.listed l.fn.segments)

abbrev pub decreases-segments : goal.decreases-segments
decreases-segments g l = length (g.L.SegmentSequence.listed l.left)
