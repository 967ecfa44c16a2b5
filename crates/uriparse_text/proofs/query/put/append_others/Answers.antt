use Rattle.std.proofs.Common.{◌≡◌, ◌∷◌, ◌++◌, [], true, false, Some, refl, ap, subst, ◌∙◌, rules}
use Rattle.std.specs.Prelude.{not}
use Rattle.std.specs.List.{filter}
use Rattle.std.specs.Option.{option_copied}
use Rattle.uriparse_text.specs.Bytes.{ampersand}
use Rattle.uriparse_text.specs.Cuts.{part}
use Rattle.uriparse_text.specs.Pairs.{pairs_left}
use Rattle.uriparse_text.proofs.lemmas.readings.AheadLemmas.{known_after}
use Rattle.uriparse_text.proofs.lemmas.readings.PutPairLemmas.{led, led_on, led_past}
use Rattle.uriparse_text.proofs.lemmas.readings.WithoutLemmas.{next_smaller}
use Rattle.uriparse_text.proofs.lemmas.tokens.StartLemmas.{Writing, writing_next}
use Rattle.uriparse_text.proofs.query.put.append_others.Goals as goal

pub loop-rest-smaller-then-not-has_next : goal.loop-rest-smaller-then-not-has_next
loop-rest-smaller-then-not-has_next g c =
    let some : option_copied c.loop-rest.rest ≡ Some c.in-Some.left.now = search rules in
    next_smaller _ c.in-Some.left.now _ some (c.without_delimiter-rest.ensures ∙ ap part c.split_at_delimiter.ensures.rest)

pub loop-rest-smaller : goal.loop-rest-smaller
loop-rest-smaller g c =
    let some : option_copied c.loop-rest.rest ≡ Some c.in-Some.left.now = search rules in
    next_smaller _ c.in-Some.left.now _ some (c.without_delimiter-rest.ensures ∙ ap part c.split_at_delimiter.ensures.rest)

pub loop-rest-preserved-then-not-has_next : goal.loop-rest-preserved-then-not-has_next
loop-rest-preserved-then-not-has_next g c =
    let passes = g.T.PairTest.passes c.args.test.now in
    let some : option_copied c.loop-rest.rest ≡ Some c.in-Some.left.now = search rules in
    let fails : c.has_next.result ≡ false = search rules in
    let cutting = c.without_delimiter-rest.ensures ∙ ap part c.split_at_delimiter.ensures.rest in
    let piece = c.split_at_delimiter.result.0.now in
    let more = led (filter (λ p. not (passes p)) (pairs_left (option_copied c.without_delimiter-rest.result))) in (
      writing_next _ _ more piece _ _ _ _ _ _
          (writing_next _ _ (piece ++ more) (ampersand ∷ []) _ _ _ _ _ _ c.loop-rest.invariant.0
          (led_on passes (option_copied c.loop-rest.rest) c.in-Some.left.now piece (option_copied c.without_delimiter-rest.result) c.has_next.result some
          c.split_at_delimiter.ensures.front cutting c.has_next.ensures.answer fails)
          c.append-total.ensures.appends c.append-total.ensures.room c.append-total.ensures.rest)
          refl c.append-total-then-not-has_next.ensures.appends c.append-total-then-not-has_next.ensures.room c.append-total-then-not-has_next.ensures.rest,
      known_after _ _ c.in-Some.left.now _ c.has_next.ensures.knows cutting,
    )

pub loop-rest-preserved : goal.loop-rest-preserved
loop-rest-preserved g c =
    let passes = g.T.PairTest.passes c.args.test.now in
    let some : option_copied c.loop-rest.rest ≡ Some c.in-Some.left.now = search rules in
    let passing : c.has_next.result ≡ true = search rules in
    let cutting = c.without_delimiter-rest.ensures ∙ ap part c.split_at_delimiter.ensures.rest in (
      subst
          (λ t. Writing (led (filter (λ p. not (passes p)) (pairs_left (option_copied c.args.pairs)))) t c.args.out.now c.args.len c.loop-rest.out c.loop-rest.total)
          (led_past passes (option_copied c.loop-rest.rest) c.in-Some.left.now c.split_at_delimiter.result.0.now (option_copied c.without_delimiter-rest.result) c.has_next.result some
          c.split_at_delimiter.ensures.front cutting c.has_next.ensures.answer passing)
          c.loop-rest.invariant.0,
      known_after _ _ c.in-Some.left.now _ c.has_next.ensures.knows cutting,
    )

pub loop-rest-init : goal.loop-rest-init
loop-rest-init g c = (search rules, c.nothing-ahead.ensures _ _)
