use Rattle.std.proofs.Common.{◌≡◌, ◌/◌, ◌^◌, ◌<◌, arith, w64, bit_and}
use Rattle.std.specs.Int.{bit_at, bit_not}
use Rattle.std.proofs.lemmas.Nat.{and_le_l}
use Rattle.std.proofs.lemmas.Nat.Bits.{bit_at_and, bit_at_not, bit_at-lt}
use Rattle.uriparse_text.proofs.lemmas.scans.BitLemmas.{bit_at_shr}
use Rattle.uriparse_text.proofs.internal.bits.without_triples.Goals as goal

pub returns-clause-no_more : goal.returns-clause-no_more
returns-clause-no_more c k h =
    let triples = bit_and (bit_and c.args.first (c.args.later / 2 ^ 1)) (c.args.later / 2 ^ 2) in
    omega (arith, bit_at_and c.args.m (bit_not w64 triples) k, bit_at-lt c.args.m k, h)

pub returns-clause-gone : goal.returns-clause-gone
returns-clause-gone c k short unset set =
    let first = c.args.first in
    let one = c.args.later / 2 ^ 1 in
    let two = c.args.later / 2 ^ 2 in
    let both = bit_and first one in
    let all = bit_and both two in
    let fits : all < 2 ^ 64 = omega (arith, and_le_l both two, and_le_l first one, c.ranges.first.fits) in
    let there : bit_at all k ≡ 1 = omega (arith, bit_at_and c.args.m (bit_not w64 all) k, bit_at_not w64 all k fits short, bit_at-lt all k, unset, set) in
    let firsts : bit_at both k ≡ 1 = omega (arith, bit_at_and both two k, bit_at-lt both k, bit_at-lt two k, there) in
    let last : bit_at two k ≡ 1 = omega (arith, bit_at_and both two k, bit_at-lt both k, bit_at-lt two k, there) in (
      omega (arith, bit_at_and first one k, bit_at-lt first k, bit_at-lt one k, firsts),
      omega (arith, bit_at_and first one k, bit_at-lt first k, bit_at-lt one k, firsts, bit_at_shr c.args.later 1 k),
      omega (arith, last, bit_at_shr c.args.later 2 k),
    )
