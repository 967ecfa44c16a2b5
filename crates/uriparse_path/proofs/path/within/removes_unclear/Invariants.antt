use Rattle.std.proofs.Common.{◌≡◌, ◌+◌, ◌≤◌, length, map}
use Rattle.std.specs.List.{list_any}
use Rattle.uriparse_text.specs.Canonical.{canonical}
use Rattle.uriparse_path.specs.Path.{max_segments}
use Rattle.uriparse_path.specs.Remaining.{Remaining}
use Rattle.uriparse_path.specs.Within.{is_unclear, removed_from, removed_segments}
use Rattle.uriparse_path.proofs.path.within.removes_unclear.Given as goal

abbrev pub invariant-segments : goal.invariant-segments
invariant-segments g l =
    ((r : Remaining)
    × (r.double_dots ≡ l.waiting)
    × (list_any is_unclear (removed_from r (map canonical (g.L.SegmentSequence.listed l.left)))
    ≡ list_any is_unclear (removed_segments (map canonical (g.L.SegmentSequence.listed l.fn.segments)))))
    × (l.waiting + length (g.L.SegmentSequence.listed l.left) ≤ max_segments)

abbrev pub decreases-segments : goal.decreases-segments
decreases-segments g l = length (g.L.SegmentSequence.listed l.left)
