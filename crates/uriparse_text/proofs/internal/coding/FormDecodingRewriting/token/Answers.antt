use Rattle.std.proofs.Common.{◌∷◌, drop, map, sym, ap, ◌∙◌}
use Rattle.uriparse_text.specs.Coding.{form_decoded, form_value_of}
use Rattle.uriparse_text.proofs.internal.coding.FormDecodingRewriting.token.Goals as goal

pub returns-clause-written : goal.returns-clause-written
returns-clause-written c =
    let later = drop c.first_token-token.result.1 c.args.after.now in
    ap (map form_value_of) c.first_token-token.ensures.cut ∙ ap (λ b. b ∷ form_decoded later) (sym c.form_value.ensures)
