use Rattle.std.proofs.Common.{◌≡◌, length, map}
use Rattle.uriparse_text.specs.Canonical.{canonical}
use Rattle.uriparse_path.specs.Within as spec
use Rattle.uriparse_path.proofs.path.within.has_ambiguous.Given as goal

abbrev pub invariant-segments : goal.invariant-segments
invariant-segments g l =
    spec.has_ambiguous (map canonical (g.L.SegmentSequence.listed l.left)) ≡ spec.has_ambiguous (map canonical (g.L.SegmentSequence.listed l.fn.segments))

abbrev pub decreases-segments : goal.decreases-segments
decreases-segments g l = length (g.L.SegmentSequence.listed l.left)
