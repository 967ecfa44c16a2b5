use Rattle.std.proofs.Common.{◌≡◌, ◌↔◌, ◌++◌, ℕ, List, length, map}
use Rattle.uriparse_text.specs.Canonical.{canonical}
use Rattle.uriparse_path.proofs.path.within.strip_directory.Given as goal

abbrev pub invariant-segments : goal.invariant-segments
invariant-segments g l =
    (rest : List (List ℕ)) → (map canonical (g.L.SegmentSequence.listed l.fn.segments) ≡ map canonical (g.L.SegmentSequence.listed l.fn.directory) ++ rest)
    ↔ (map canonical (g.L.SegmentSequence.listed l.left) ≡ map canonical (g.L.SegmentSequence.listed l.more) ++ rest)

abbrev pub decreases-segments : goal.decreases-segments
decreases-segments g l = length (g.L.SegmentSequence.listed l.more)
