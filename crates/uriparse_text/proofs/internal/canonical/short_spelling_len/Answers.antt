use Rattle.std.proofs.Common.{◌≡◌, ◌∷◌, ◌++◌, length, drop, sym, ap, ◌∙◌, rules, arith}
use Rattle.std.proofs.lemmas.List.{nil_from_length, take_rest}
use Rattle.uriparse_text.specs.declared.internal.token.Case.TheVariants.{Kept}
use Rattle.uriparse_text.specs.Canonical.{canonical_in, may_change}
use Rattle.uriparse_text.specs.Cuts.{up_to}
use Rattle.uriparse_text.specs.Tokens.{tokens}
use Rattle.uriparse_text.proofs.lemmas.canonical.RunLemmas.{spelling_keeps}
use Rattle.uriparse_text.proofs.lemmas.canonical.SpellingLengthLemmas.{counted_token, counted_run, counted_all}
use Rattle.uriparse_text.proofs.lemmas.readings.CutLemmas.{cut-whole}
use Rattle.uriparse_text.proofs.internal.canonical.short_spelling_len.Goals as goal

pub split_run-requires-clause-keeps : goal.split_run-requires-clause-keeps
split_run-requires-clause-keeps c = spelling_keeps Kept

pub overflow_sub-len : goal.overflow_sub-len
overflow_sub-len c =
    let front : c.pieces.rest.now ≡ c.in-Some.field-0-0.now ∷ c.in-Some.after.now = search rules in
    let counted = counted_token (length (canonical_in Kept c.args.text.now)) c.pieces.len c.saved-len.result c.pieces.rest.now
    (drop c.first_token-token.result.1 c.in-Some.after.now) c.first_token-token.result.0 c.pieces.invariant
    (ap tokens front ∙ c.first_token-token.ensures.cut) (c.saved-len.ensures Kept) in
    let less = counted.0 in
    omega arith

pub pieces-preserved-then-b-eq37 : goal.pieces-preserved-then-b-eq37
pieces-preserved-then-b-eq37 c =
    let front : c.pieces.rest.now ≡ c.in-Some.field-0-0.now ∷ c.in-Some.after.now = search rules in
    rw (take_rest c.in-Some.after.now c.first_token-token.result.1)
    (counted_token (length (canonical_in Kept c.args.text.now)) c.pieces.len c.saved-len.result c.pieces.rest.now
    (drop c.first_token-token.result.1 c.in-Some.after.now) c.first_token-token.result.0 c.pieces.invariant
    (ap tokens front ∙ c.first_token-token.ensures.cut) (c.saved-len.ensures Kept)).1

pub pieces-preserved : goal.pieces-preserved
pieces-preserved c =
    counted_run (length (canonical_in Kept c.args.text.now)) c.pieces.len c.pieces.rest.now c.split_run.result.0.now c.split_run.result.1.now
    c.pieces.invariant
    (sym (cut-whole (may_change Kept) c.pieces.rest.now)
    ∙ ap (λ u. up_to (may_change Kept) c.pieces.rest.now ++ u) (sym c.split_run.ensures.rest)
    ∙ ap (λ u. u ++ c.split_run.result.1.now) (sym c.split_run.ensures.run))
    c.split_run.ensures.kept

pub returns : goal.returns
returns c =
    let none : length c.pieces.rest.now ≡ 0 = search rules in
    counted_all c.args.case c.pieces.len c.args.text.now c.pieces.rest.now c.pieces.invariant (nil_from_length c.pieces.rest.now none)
