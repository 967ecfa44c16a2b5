use Rattle.std.proofs.Common.{◌≡◌, fold, take, flat_map}
use Rattle.uriparse_text.specs.Canonical.{canonical}
use Rattle.uriparse_path.specs.Path.{fed_piece}
use Rattle.uriparse_path.proofs.path.feed_pieces.Given as goal

abbrev pub invariant-loop-segment : goal.invariant-loop-segment
invariant-loop-segment g l =
    l.state ≡ fold g.H.Hasher.write l.initial.state (flat_map (λ s. fed_piece (canonical s)) (take l.segment-index l.segments))
