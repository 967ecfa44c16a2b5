use Rattle.std.proofs.Common.{◌≡◌, length}
use Rattle.std.specs.List.{list_any}
use Rattle.uriparse.specs.Disagreement.{is_escaped_dots}
use Rattle.uriparse.proofs.uri.disagreement.has_escaped_dots.Given as goal

abbrev pub invariant-segments : goal.invariant-segments
invariant-segments g l = list_any is_escaped_dots (g.L.SegmentSequence.listed l.left) ≡ list_any is_escaped_dots (g.L.SegmentSequence.listed l.fn.segments)

abbrev pub decreases-segments : goal.decreases-segments
decreases-segments g l = length (g.L.SegmentSequence.listed l.left)
