use Rattle.std.proofs.Common.{◌∷◌, drop, sym, ap, ◌∙◌}
use Rattle.uriparse_text.specs.Coding.{decoded}
use Rattle.uriparse_text.proofs.lemmas.tokens.CodingLemmas.{decoded-cons}
use Rattle.uriparse_text.proofs.internal.coding.DecodingRewriting.token.Goals as goal

pub returns-clause-written : goal.returns-clause-written
returns-clause-written c =
    let later = drop c.first_token-token.result.1 c.args.after.now in
    decoded-cons (c.args.b ∷ c.args.after.now) later c.first_token-token.result.0 c.first_token-token.ensures.cut
    ∙ ap (λ b. b ∷ decoded later) (sym c.value.ensures)
