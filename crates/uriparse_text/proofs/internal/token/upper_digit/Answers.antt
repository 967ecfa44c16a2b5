use Rattle.std.proofs.Common.{true, get_or, refl}
use Rattle.std.specs.Prelude.{◌==◌}
use Rattle.std.proofs.lemmas.Bool.{agree_below_at, eqb-true}
use Rattle.uriparse_text.specs.declared.internal.token.TheConstants.{UPPER_DIGITS}
use Rattle.uriparse_text.specs.Alike.{upper_digit_of}
use Rattle.uriparse_text.proofs.internal.token.upper_digit.Goals as goal

pub returns : goal.returns
returns c = eqb-true _ _ (agree_below_at (λ n. get_or UPPER_DIGITS n 0 == upper_digit_of n) (λ n. true) 16 c.args.n refl c.requires)
