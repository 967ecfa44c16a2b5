use Rattle.std.proofs.Common.{◌≡◌, true, false, Some, None, sym, ap, ◌∙◌, rules}
use Rattle.std.specs.Option.{option_copied}
use Rattle.uriparse_text.specs.Cuts.{part}
use Rattle.uriparse_text.proofs.lemmas.readings.AheadLemmas.{known_after}
use Rattle.uriparse_text.proofs.lemmas.readings.NamedLemmas.{any_at, seeking_first, seeking_found, seeking_next, seeking_none}
use Rattle.uriparse_text.proofs.lemmas.readings.WithoutLemmas.{next_smaller}
use Rattle.uriparse_text.proofs.query.find.find_pair.Goals as goal

pub loop-rest-init : goal.loop-rest-init
loop-rest-init g c = (seeking_first (g.T.PairTest.passes c.args.test.now) c.args.query.now, c.nothing-ahead.ensures _ _)

pub loop-rest-smaller : goal.loop-rest-smaller
loop-rest-smaller g c =
    let some : option_copied c.loop-rest.rest ≡ Some c.in-Some.left.now = search rules in
    next_smaller _ c.in-Some.left.now _ some (c.without_delimiter-rest.ensures ∙ ap part c.split_at_delimiter.ensures.rest)

pub loop-rest-preserved : goal.loop-rest-preserved
loop-rest-preserved g c =
    let some : option_copied c.loop-rest.rest ≡ Some c.in-Some.left.now = search rules in
    let no : c.has_next.result ≡ false = search rules in (
      seeking_next _ _ _ c.in-Some.left.now _ _ _ c.loop-rest.invariant.0 some c.split_at_delimiter.ensures.front c.has_next.ensures.answer no
          (c.without_delimiter-rest.ensures ∙ ap part c.split_at_delimiter.ensures.rest),
      known_after _ _ c.in-Some.left.now _ c.has_next.ensures.knows (c.without_delimiter-rest.ensures ∙ ap part c.split_at_delimiter.ensures.rest),
    )

pub returns-then-has_next-clause-some : goal.returns-then-has_next-clause-some
returns-then-has_next-clause-some g c =
    let some : option_copied c.loop-rest.rest ≡ Some c.in-Some.left.now = search rules in
    let yes : c.has_next.result ≡ true = search rules in
    sym (any_at _ _ c.in-Some.left.now (seeking_found _ _ _ c.in-Some.left.now _ _ c.loop-rest.invariant.0 some c.split_at_delimiter.ensures.front c.has_next.ensures.answer yes))

pub returns-then-has_next-clause-place : goal.returns-then-has_next-clause-place
returns-then-has_next-clause-place g c =
    let some : option_copied c.loop-rest.rest ≡ Some c.in-Some.left.now = search rules in
    let yes : c.has_next.result ≡ true = search rules in
    seeking_found _ _ _ c.in-Some.left.now _ _ c.loop-rest.invariant.0 some c.split_at_delimiter.ensures.front c.has_next.ensures.answer yes

pub returns-clause-some : goal.returns-clause-some
returns-clause-some g c =
    let none : option_copied c.loop-rest.rest ≡ None = search rules in
    sym (seeking_none _ _ _ c.loop-rest.invariant.0 none)
