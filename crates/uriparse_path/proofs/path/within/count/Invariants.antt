use Rattle.std.proofs.Common.{◌≡◌, ◌+◌, length}
use Rattle.std.specs.Option.{option_map}
use Rattle.uriparse_path.specs.Within.{AreFew, normal_left}
use Rattle.uriparse_path.proofs.path.within.count.Given as goal

abbrev pub invariant-segments : goal.invariant-segments
invariant-segments g l =
    (l.count + length (normal_left l.left.absolute l.left.ended (option_map g.L.SegmentSequence.listed l.left.left))
    ≡ length (normal_left l.fn.segments.absolute l.fn.segments.ended (option_map g.L.SegmentSequence.listed l.fn.segments.left)))
    × AreFew (option_map g.L.SegmentSequence.listed l.left.left)

abbrev pub decreases-segments : goal.decreases-segments
decreases-segments g l = length (normal_left l.left.absolute l.left.ended (option_map g.L.SegmentSequence.listed l.left.left))
