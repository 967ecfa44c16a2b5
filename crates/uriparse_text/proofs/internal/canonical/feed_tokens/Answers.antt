use Rattle.std.proofs.Common.{◌++◌, ap, refl, ◌∙◌, fold, take, arith}
use Rattle.uriparse_text.specs.Tokens.{spell}
use Rattle.uriparse_text.specs.Canonical.{canonical_in, fed_bytes}
use Rattle.uriparse_text.proofs.lemmas.canonical.HashLemmas.{feeds_token, feeds_waiting}
use Rattle.uriparse_text.proofs.internal.canonical.feed_tokens.Goals as goal

pub tokens-init : goal.tokens-init
tokens-init g c = (omega arith, refl)

pub tokens-preserved : goal.tokens-preserved
tokens-preserved g c =
    let waiting = take c.tokens.len c.tokens.block in
    let later = canonical_in c.args.case c.in-Some.after.now in (
      c.hold_token-len.ensures.few,
      c.hold_token-len.ensures.fed later
          ∙ ap (λ t. fold g.H.Hasher.write c.tokens.state (fed_bytes (waiting ++ (spell t ++ later)))) c.canonical.ensures
          ∙ feeds_token g.H.Hasher.write c.tokens.state waiting c.args.case c.tokens.rest.now c.in-Some.after.now c.in-Some.token c.in-Some.ensures.cut
          ∙ c.tokens.invariant.1,
    )

pub returns : goal.returns
returns g c =
    c.write.ensures
    ∙ feeds_waiting g.H.Hasher.write c.tokens.state c.tokens.block c.tokens.len c.args.case c.tokens.rest.now c.tokens.invariant.0 c.in_default.ensures.cut
    ∙ c.tokens.invariant.1
