use Rattle.std.proofs.Common.{◌≡◌, ◌++◌, ◌∷◌, [], ◌/◌, ◌%◌, ◌-◌, ◌∙◌, length, take, drop, ap, subst}
use Rattle.std.proofs.lemmas.List.{take_rest}
use Rattle.std.specs.Char.{digit_char}
use Rattle.std.specs.Net.Text.{hex, leading_zero_digits}
use Rattle.uriparse_text.specs.Ends.{EndsWith}
use Rattle.uriparse_text.proofs.address.printed.prepend_hex.Goals as goal

pub returns-clause-puts : goal.returns-clause-puts
unfolding hex
returns-clause-puts c = λ t h.
    let digits = c.hex_digit.result ∷ c.hex_digit-2.result ∷ c.hex_digit-3.result ∷ c.hex_digit-4.result ∷ [] in
    let same : take (length digits - c.leading_zeros.result) (drop c.leading_zeros.result digits) ≡ hex c.args.segment =
    take_rest digits c.leading_zeros.result
    ∙ ap (λ n. drop n digits) c.leading_zeros.ensures.value
    ∙ ap (λ d. drop (leading_zero_digits c.args.segment) (d ∷ c.hex_digit-2.result ∷ c.hex_digit-3.result ∷ c.hex_digit-4.result ∷ [])) c.hex_digit.ensures
    ∙ ap (λ d. drop (leading_zero_digits c.args.segment) (digit_char (c.args.segment / 0x1000) ∷ d ∷ c.hex_digit-3.result ∷ c.hex_digit-4.result ∷ []))
    c.hex_digit-2.ensures
    ∙ ap (λ d. drop (leading_zero_digits c.args.segment)
    (digit_char (c.args.segment / 0x1000) ∷ digit_char (c.args.segment / 0x100 % 16) ∷ d ∷ c.hex_digit-4.result ∷ [])) c.hex_digit-3.ensures
    ∙ ap (λ d. drop (leading_zero_digits c.args.segment)
    (digit_char (c.args.segment / 0x1000) ∷ digit_char (c.args.segment / 0x100 % 16) ∷ digit_char (c.args.segment / 0x10 % 16) ∷ d ∷ []))
    c.hex_digit-4.ensures in
    subst (λ u. EndsWith c.prepend.new.out c.prepend.result (u ++ t)) same (c.prepend.ensures.puts t h)
