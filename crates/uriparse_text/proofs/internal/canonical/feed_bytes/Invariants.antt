use Rattle.std.proofs.Common.{◌≡◌, fold, take}
use Rattle.uriparse_text.proofs.internal.canonical.feed_bytes.Given as goal

abbrev pub invariant-loop-block : goal.invariant-loop-block
invariant-loop-block g l = l.state ≡ fold g.H.Hasher.write l.initial.state (take l.block-index l.blocks)
