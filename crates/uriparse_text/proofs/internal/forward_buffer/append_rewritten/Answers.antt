use Rattle.std.proofs.Common.{◌≡◌, ◌∷◌, [], drop, ◌∙◌, ap, rules}
use Rattle.std.proofs.lemmas.List.{take_rest}
use Rattle.uriparse_text.specs.Tokens.{spell}
use Rattle.uriparse_text.proofs.lemmas.tokens.PieceLemmas.{two_first}
use Rattle.uriparse_text.proofs.lemmas.tokens.StartLemmas.{writing_next}
use Rattle.uriparse_text.proofs.internal.forward_buffer.append_rewritten.Goals as goal

pub pieces-preserved-in-Some-escaped_byte : goal.pieces-preserved-in-Some-escaped_byte
pieces-preserved-in-Some-escaped_byte g c =
    let rewritten = g.R.Rewriting.rewritten c.args.way.now in
    let after = c.in-Some.after.now in
    let value = c.in-Some-escaped_byte.value in
    let cut : c.pieces.rest.now ≡ c.in-Some.field-0-0.now ∷ after = search rules in
    rw (take_rest after 2)
    (writing_next _ _ _ (value ∷ []) _ _ _ _ _ _ c.pieces.invariant
    (ap rewritten cut ∙ ap (λ u. rewritten (c.in-Some.field-0-0.now ∷ u)) (two_first after c.in-len2-up.len_at_least)
    ∙ c.in-Some-escaped_byte.ensures (drop 2 after))
    c.append_byte-total.ensures.appends c.append_byte-total.ensures.room c.append_byte-total.ensures.rest)

pub pieces-preserved-then-has : goal.pieces-preserved-then-has
pieces-preserved-then-has g c =
    let rewritten = g.R.Rewriting.rewritten c.args.way.now in
    let cut : c.pieces.rest.now ≡ c.in-Some.field-0-0.now ∷ c.in-Some.after.now = search rules in
    rw (take_rest c.in-Some.after.now c.token-token.result.1)
    (writing_next _ _ _ (spell c.token-token.result.0) _ _ _ _ _ _ c.pieces.invariant (ap rewritten cut ∙ c.token-token.ensures.written)
    c.append_token-total.ensures.appends c.append_token-total.ensures.room c.append_token-total.ensures.rest)

pub pieces-preserved : goal.pieces-preserved
pieces-preserved g c =
    writing_next _ _ _ c.split_run.result.0.now _ _ _ _ _ _ c.pieces.invariant c.split_run.ensures.kept c.append-total.ensures.appends
    c.append-total.ensures.room c.append-total.ensures.rest
