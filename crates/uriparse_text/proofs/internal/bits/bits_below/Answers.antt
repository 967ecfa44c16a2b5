use Rattle.std.proofs.Common.{◌%◌, ap, ◌∙◌}
use Rattle.std.specs.Int.{bit_at}
use Rattle.std.proofs.lemmas.Nat.{one_shl}
use Rattle.uriparse_text.proofs.lemmas.scans.BitLemmas.{below-kept, below-gone}
use Rattle.uriparse_text.proofs.internal.bits.bits_below.Goals as goal

pub returns-clause-kept : goal.returns-clause-kept
returns-clause-kept c k h =
    ap (λ n. bit_at (c.args.m % n) k) (one_shl c.args.offset 64 c.requires) ∙ below-kept c.args.m c.args.offset k h

pub returns-clause-gone : goal.returns-clause-gone
returns-clause-gone c k h =
    ap (λ n. bit_at (c.args.m % n) k) (one_shl c.args.offset 64 c.requires) ∙ below-gone c.args.m c.args.offset k h
