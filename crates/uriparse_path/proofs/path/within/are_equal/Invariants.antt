use Rattle.std.proofs.Common.{◌≡◌, ◌↔◌, length, map}
use Rattle.std.specs.Option.{option_map}
use Rattle.uriparse_text.specs.Canonical.{canonical}
use Rattle.uriparse_path.specs.Within.{AreFew, normal_left}
use Rattle.uriparse_path.proofs.path.within.are_equal.Given as goal

abbrev pub invariant-segments : goal.invariant-segments
invariant-segments g l =
    ((map canonical (normal_left l.left.absolute l.left.ended (option_map g.L.SegmentSequence.listed l.left.left))
    ≡ map canonical (normal_left l.other.absolute l.other.ended (option_map g.L.SegmentSequence.listed l.other.left)))
    ↔ (map canonical (normal_left l.fn.segments.absolute l.fn.segments.ended (option_map g.L.SegmentSequence.listed l.fn.segments.left))
    ≡ map canonical (normal_left l.fn.others.absolute l.fn.others.ended (option_map g.L.SegmentSequence.listed l.fn.others.left))))
    × AreFew (option_map g.L.SegmentSequence.listed l.left.left)
    × AreFew (option_map g.L.SegmentSequence.listed l.other.left)

abbrev pub decreases-segments : goal.decreases-segments
decreases-segments g l = length (normal_left l.left.absolute l.left.ended (option_map g.L.SegmentSequence.listed l.left.left))
