use Rattle.std.proofs.Common.{◌≡◌, ◌-◌, suc, ap, ◌∙◌, arith}
use Rattle.std.specs.Int.{bit_at}
use Rattle.std.specs.Int.Count.{count_leading_zeros}
use Rattle.std.proofs.lemmas.Nat.{leading_top}
use Rattle.std.proofs.lemmas.Nat.Bits.{bit_at_above}
use Rattle.uriparse_text.proofs.lemmas.scans.BitLemmas.{highest-set}
use Rattle.uriparse_text.proofs.internal.bits.highest.Goals as goal

pub returns-clause-set : goal.returns-clause-set
returns-clause-set c =
    let top = leading_top 64 c.args.m (omega (arith, c.requires)) c.ranges.m.fits in
    let offset : 63 - count_leading_zeros 64 c.args.m ≡ top.0 = omega (arith, top.1) in
    ap (bit_at c.args.m) offset ∙ highest-set c.args.m top.0 top.2 top.3

pub returns-clause-above : goal.returns-clause-above
returns-clause-above c k h =
    let top = leading_top 64 c.args.m (omega (arith, c.requires)) c.ranges.m.fits in
    bit_at_above c.args.m (suc top.0) k top.3 (omega (arith, top.1, h))
