use Rattle.std.proofs.Common.{nat_eq, bit_and, get_or, refl, arith}
use Rattle.std.specs.Prelude.{not}
use Rattle.std.proofs.lemmas.Bool.{agree_below_at}
use Rattle.uriparse_text.specs.declared.internal.class.TheConstants.{FLAGS}
use Rattle.uriparse_text.specs.Bytes.{is_unreserved}
use Rattle.uriparse_text.proofs.internal.class.is_unreserved.Goals as goal

pub returns : goal.returns
unfolding is_unreserved
returns c = agree_below_at (λ b. not (nat_eq (bit_and (get_or FLAGS b 0) 16) 0)) is_unreserved 256 c.args.b refl (omega arith)
