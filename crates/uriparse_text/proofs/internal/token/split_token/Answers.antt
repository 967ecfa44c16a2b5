use Rattle.std.proofs.Common.{◌≡◌, ◌∷◌, ◌∙◌, ap, rules}
use Rattle.std.proofs.lemmas.List.{take_rest}
use Rattle.uriparse_text.specs.Tokens.{tokens}
use Rattle.uriparse_text.proofs.lemmas.tokens.TokenLemmas.{tokens-escape, tokens-byte}
use Rattle.uriparse_text.proofs.internal.token.split_token.Goals as goal

pub returns-then-is_escape-clause-cut : goal.returns-then-is_escape-clause-cut
returns-then-is_escape-clause-cut c =
    let front : c.args.text.now ≡ c.in_ok-b.field-0-0.now ∷ c.in_ok-b.after.now = search rules in
    rw (take_rest c.in_ok-b.after.now 2) (ap tokens front ∙ tokens-escape _ _ (cc))

pub returns-else-is_escape-clause-cut : goal.returns-else-is_escape-clause-cut
returns-else-is_escape-clause-cut c =
    let front : c.args.text.now ≡ c.in_ok-b.field-0-0.now ∷ c.in_ok-b.after.now = search rules in
    ap tokens front ∙ tokens-byte _ _ (cc)
