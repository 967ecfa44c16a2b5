use Rattle.std.proofs.Common.{cond, true, get_or, nat_lt, refl, sym, ap, ◌∙◌, arith}
use Rattle.std.specs.Prelude.{◌==◌}
use Rattle.std.specs.Char.{digit_value}
use Rattle.std.proofs.lemmas.Bool.{agree_below_at, eqb-true, ltb-true}
use Rattle.uriparse_text.specs.declared.internal.token.TheConstants.{VALUES}
use Rattle.uriparse_text.specs.Bytes.{is_hex}
use Rattle.uriparse_text.proofs.internal.token.value_in_table.Goals as goal

pub returns-clause-value : goal.returns-clause-value
returns-clause-value c =
    eqb-true _ _ (agree_below_at (λ b. get_or VALUES b 0 == cond (is_hex b) (digit_value b) 31) (λ b. true) 256 c.args.b refl (omega arith))

pub returns-clause-small : goal.returns-clause-small
returns-clause-small c = λ h.
    ltb-true _ _ (ap (λ v. nat_lt (cond v (get_or VALUES c.args.b 0) 0) 16) (sym h)
    ∙ agree_below_at (λ b. nat_lt (cond (is_hex b) (get_or VALUES b 0) 0) 16) (λ b. true) 256 c.args.b refl (omega arith))
