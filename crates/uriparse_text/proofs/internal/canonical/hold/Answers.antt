use Rattle.std.proofs.Common.{ap, ◌∙◌, fold, arith}
use Rattle.uriparse_text.specs.Canonical.{fed_bytes}
use Rattle.uriparse_text.proofs.lemmas.canonical.HashLemmas.{feeds_full}
use Rattle.uriparse_text.proofs.internal.canonical.hold.Goals as goal

pub returns-clause-fed : goal.returns-clause-fed
returns-clause-fed g c = λ later.
    ap (λ s. fold g.H.Hasher.write s (fed_bytes later)) c.write.ensures
    ∙ feeds_full g.H.Hasher.write c.args.state.now c.args.block.now c.args.len c.args.b later
    (omega (arith, c.requires, c.if-len-lt-BLOCK.false)) c.told-block
