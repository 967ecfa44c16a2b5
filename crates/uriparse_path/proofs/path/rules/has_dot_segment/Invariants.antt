use Rattle.std.proofs.Common.{◌≡◌, length}
use Rattle.uriparse_path.specs.Dots as dots
use Rattle.uriparse_path.proofs.path.rules.has_dot_segment.Given as goal

abbrev pub invariant-segments : goal.invariant-segments
invariant-segments g l = dots.has_dot_segment (g.L.SegmentSequence.listed l.left) ≡ dots.has_dot_segment (g.L.SegmentSequence.listed l.fn.segments)

abbrev pub decreases-segments : goal.decreases-segments
decreases-segments g l = length (g.L.SegmentSequence.listed l.left)
