use Rattle.std.proofs.Common.{◌≡◌, inl, inr, arith, w64}
use Rattle.std.specs.Int.{bit_at, bit_not}
use Rattle.std.proofs.lemmas.Nat.Bits.{bit_at_and, bit_at_not, bit_at-lt, bit_at_above}
use Rattle.std.proofs.lemmas.Bool.{cases_lt}
use Rattle.uriparse_text.proofs.internal.bits.without.Goals as goal

pub returns-clause-gone : goal.returns-clause-gone
returns-clause-gone c k short unset set =
    let m = c.args.m in
    let other = c.args.other in
    omega (arith, bit_at_and m (bit_not w64 other) k, bit_at_not w64 other k c.ranges.other.fits short, bit_at-lt other k, unset, set)

pub returns-clause-no_more : goal.returns-clause-no_more
returns-clause-no_more c k set =
    let m = c.args.m in
    let other = c.args.other in
    let inside : bit_at m k ≡ 1 = omega (arith, bit_at_and m (bit_not w64 other) k, bit_at-lt m k, set) in
    elim (cases_lt k 64) [
      | inl short ↦ (inside, omega (arith, bit_at_and m (bit_not w64 other) k, bit_at_not w64 other k c.ranges.other.fits short, bit_at-lt other k, set))
      | inr past ↦ let none = bit_at_above m 64 k c.ranges.m.fits past in omega (arith, none, inside)
    ]
