use Rattle.std.proofs.Common.{◌-◌, inl, inr, arith}
use Rattle.std.proofs.lemmas.Bool.{cases_lt}
use Rattle.std.proofs.lemmas.Nat.{and_le_r}
use Rattle.std.proofs.lemmas.Nat.Bits.{bit_at_and, bit_at-lt}
use Rattle.uriparse_text.proofs.lemmas.scans.BitLemmas.{less_one-lowest, less_one-above}
use Rattle.uriparse_text.proofs.internal.bits.without_lowest.Goals as goal

pub returns-clause-smaller : goal.returns-clause-smaller
returns-clause-smaller c = omega (arith, and_le_r c.args.m (c.args.m - 1), c.requires)

pub returns-clause-cleared : goal.returns-clause-cleared
returns-clause-cleared c k is = omega (arith, bit_at_and c.args.m (c.args.m - 1) k, less_one-lowest c.args.m k is.0 is.1)

pub returns-clause-kept : goal.returns-clause-kept
returns-clause-kept c k j is apart =
    let m = c.args.m in
    elim (cases_lt j k) [
      | inl below ↦ omega (arith, bit_at_and m (m - 1) j, is.1 j below)
      | inr past ↦ omega (arith, bit_at_and m (m - 1) j, less_one-above m k j is.0 is.1 (omega arith))
    ]

pub returns-clause-no_more : goal.returns-clause-no_more
returns-clause-no_more c k h = omega (arith, bit_at_and c.args.m (c.args.m - 1) k, bit_at-lt c.args.m k, h)
