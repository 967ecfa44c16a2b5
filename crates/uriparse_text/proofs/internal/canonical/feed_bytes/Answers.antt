use Rattle.std.proofs.Common.{ap, ◌∙◌, fold, take_all}
use Rattle.uriparse_text.proofs.lemmas.canonical.HashLemmas.{feeds_bytes}
use Rattle.uriparse_text.proofs.internal.canonical.feed_bytes.Goals as goal

pub returns : goal.returns
returns g c =
    let blocks = c.as_chunks.result.0.now in
    let last = c.as_chunks.result.1.now in
    c.write-2.ensures
    ∙ ap (λ s. g.H.Hasher.write s last) (c.loop-block.invariant ∙ ap (fold g.H.Hasher.write c.args.state.now) (take_all c.loop-block.block-index blocks c.loop-block-test.false))
    ∙ feeds_bytes g.H.Hasher.write c.args.state.now c.args.bytes.now blocks last c.as_chunks.ensures.front c.as_chunks.ensures.back
