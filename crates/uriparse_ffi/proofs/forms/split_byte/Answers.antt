use Rattle.std.proofs.Common.{◌≡◌, ◌∷◌, ◌∙◌, ℕ, cond, drop, map, true, false, sym, ap, arith}
use Rattle.std.specs.Prelude.{◌==◌}
use Rattle.std.proofs.lemmas.Bool.Decides.{nat_tests}
use Rattle.std.proofs.lemmas.List.{take_rest}
use Rattle.uriparse_text.specs.Coding.{form_decoded, form_value_of}
use Rattle.uriparse_text.specs.Tokens.{is_escape}
use Rattle.uriparse_text.proofs.lemmas.tokens.TokenLemmas.{tokens-byte, tokens-escape}
use Rattle.uriparse_ffi.proofs.forms.split_byte.Goals.{then-b-eq43, else-b-eq43}
use Rattle.uriparse_ffi.proofs.forms.split_byte.Goals as goal

pub returns-then-is_escape-clause-cut : goal.returns-then-is_escape-clause-cut
returns-then-is_escape-clause-cut c =
    let after = c.args.after.now in
    let is : is_escape c.args.b after ≡ true = sym c.is_escape.ensures ∙ c.if-is_escape.true in
    ap (map form_value_of) (tokens-escape c.args.b after is)
    ∙ ap (λ n. n ∷ form_decoded (drop 2 after)) (sym c.octet_of.ensures)
    ∙ ap (λ t. c.octet_of.result ∷ form_decoded t) (sym (take_rest after 2))

is_plus : (b : ℕ) → b ≡ 43 → (b == 43) ≡ true
is_plus b e = grind (arith, nat_tests)

is_no_plus : (b : ℕ) → (b ≡ 43 → ⊥) → (b == 43) ≡ false
is_no_plus b e = grind (arith, nat_tests)

pub returns-clause-cut : goal.returns-clause-cut
returns-clause-cut c =
    let after = c.args.after.now in
    let is : is_escape c.args.b after ≡ false = sym c.is_escape.ensures ∙ c.if-is_escape.false in
    ap (map form_value_of) (tokens-byte c.args.b after is) ∙ ap (λ n. n ∷ form_decoded after) (elim c.if-b-eq43.branch [
      | then-b-eq43 w ↦ ap (λ v. cond v 32 c.args.b) (is_plus c.args.b w.if-b-eq43.true) ∙ sym w.result-is
      | else-b-eq43 w ↦ ap (λ v. cond v 32 c.args.b) (is_no_plus c.args.b w.if-b-eq43.false) ∙ sym w.result-is
    ])
