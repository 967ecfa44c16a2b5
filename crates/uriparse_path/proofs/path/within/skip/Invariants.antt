use Rattle.std.proofs.Common.{◌≡◌, ◌+◌, ◌++◌, ◌≤◌, ℕ, List, false, length, map}
use Rattle.std.specs.Option.{option_map}
use Rattle.uriparse_text.specs.Canonical.{canonical}
use Rattle.uriparse_path.specs.Within.{AreFew, has_ambiguous, normal_left}
use Rattle.uriparse_path.proofs.path.within.skip.Given as goal

abbrev pub invariant-segments : goal.invariant-segments
invariant-segments g l =
    let now = normal_left l.left.absolute l.left.ended (option_map g.L.SegmentSequence.listed l.left.left) in
    ((rest : List (List ℕ))
    × (normal_left l.fn.segments.absolute l.fn.segments.ended (option_map g.L.SegmentSequence.listed l.fn.segments.left) ≡ now ++ rest)
    × (length rest + l.more ≡ l.fn.count)
    × (has_ambiguous (map canonical rest) ≡ false))
    × (l.more ≤ length now)
    × AreFew (option_map g.L.SegmentSequence.listed l.left.left)

abbrev pub decreases-segments : goal.decreases-segments
decreases-segments g l = l.more
