use Rattle.std.proofs.Common.{◌∷◌, ◌++◌, ap, sym, ◌∙◌, fold, take}
use Rattle.uriparse_text.specs.Tokens.{spell}
use Rattle.uriparse_text.specs.Canonical.{fed_bytes}
use Rattle.uriparse_text.proofs.internal.canonical.hold_token.Goals as goal

pub returns-in-Escape-clause-fed : goal.returns-in-Escape-clause-fed
returns-in-Escape-clause-fed g c = λ later.
    c.hold-in-Escape.ensures.fed later
    ∙ c.hold-len-in-Escape.ensures.fed (c.in-Escape.low ∷ later)
    ∙ c.hold-len.ensures.fed (c.in-Escape.high ∷ c.in-Escape.low ∷ later)
    ∙ ap (λ t. fold g.H.Hasher.write c.args.state.now (fed_bytes (take c.args.len c.args.block.now ++ (spell t ++ later)))) (sym c.in-Escape.is)
