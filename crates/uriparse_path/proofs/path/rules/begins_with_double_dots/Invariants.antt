use Rattle.std.proofs.Common.{◌≡◌, length}
use Rattle.uriparse_path.specs.Normal as spec
use Rattle.uriparse_path.proofs.path.rules.begins_with_double_dots.Given as goal

abbrev pub invariant-segments : goal.invariant-segments
invariant-segments g l =
    spec.begins_with_double_dots (g.L.SegmentSequence.listed l.left) ≡ spec.begins_with_double_dots (g.L.SegmentSequence.listed l.fn.segments)

abbrev pub decreases-segments : goal.decreases-segments
decreases-segments g l = length (g.L.SegmentSequence.listed l.left)
