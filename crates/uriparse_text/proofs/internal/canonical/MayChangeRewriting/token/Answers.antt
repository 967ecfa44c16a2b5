use Rattle.std.proofs.Common.{◌∷◌, ◌++◌, drop, sym, ap, ◌∙◌}
use Rattle.uriparse_text.specs.Canonical.{canonical_in}
use Rattle.uriparse_text.specs.Tokens.{spell}
use Rattle.uriparse_text.proofs.lemmas.canonical.CanonicalLemmas.{canonical_in-cons}
use Rattle.uriparse_text.proofs.internal.canonical.MayChangeRewriting.token.Goals as goal

pub returns-clause-written : goal.returns-clause-written
returns-clause-written c =
    let case = c.args.self.now.0 in
    let later = drop c.first_token-token.result.1 c.args.after.now in
    canonical_in-cons case (c.args.b ∷ c.args.after.now) later c.first_token-token.result.0 c.first_token-token.ensures.cut
    ∙ ap (λ t. spell t ++ canonical_in case later) (sym c.canonical.ensures)
