use Rattle.std.proofs.Common.{◌≡◌, ◌++◌, ◌∷◌, [], true, false, Some, None, ap, ◌∙◌, rules}
use Rattle.std.specs.Option.{option_copied}
use Rattle.uriparse_text.specs.Bytes.{ampersand}
use Rattle.uriparse_text.specs.Cuts.{part}
use Rattle.uriparse_text.proofs.lemmas.readings.AheadLemmas.{known_after}
use Rattle.uriparse_text.proofs.lemmas.readings.WithoutLemmas.{TestStep, next_on, next_past, next_smaller, others_last}
use Rattle.uriparse_text.proofs.query.without.other_pieces.Goals as goal

pub loop-rest-smaller-in-Continue-branch-3 : goal.loop-rest-smaller-in-Continue-branch-3
loop-rest-smaller-in-Continue-branch-3 g c =
    let some : option_copied c.loop-rest.rest ≡ Some c.in-Some.left.now = search rules in
    next_smaller _ c.in-Some.left.now _ some (c.without_delimiter-rest.ensures ∙ ap part c.split_at_delimiter.ensures.rest)

pub loop-rest-smaller : goal.loop-rest-smaller
loop-rest-smaller g c =
    let some : option_copied c.loop-rest.rest ≡ Some c.in-Some.left.now = search rules in
    next_smaller _ c.in-Some.left.now _ some (c.without_delimiter-rest.ensures ∙ ap part c.split_at_delimiter.ensures.rest)

pub loop-rest-preserved-in-Continue-branch-3 : goal.loop-rest-preserved-in-Continue-branch-3
loop-rest-preserved-in-Continue-branch-3 g c =
    let some : option_copied c.loop-rest.rest ≡ Some c.in-Some.left.now = search rules in
    let no : c.has_next.result ≡ false = search rules in
    let more : c.push.new.self.items ≡ (c.loop-rest.text.items ++ c.split_at_delimiter.result.0.now) ++ ampersand ∷ [] = search rules in (
      next_on (TestStep (g.T.PairTest.passes c.args.test.now)) _ _ _ _ _ c.in-Some.left.now _ _ _ c.has_next.result _ c.loop-rest.invariant.0 some c.split_at_delimiter.ensures.front c.has_next.ensures.answer no
          (c.without_delimiter-rest.ensures ∙ ap part c.split_at_delimiter.ensures.rest) more,
      known_after _ _ c.in-Some.left.now _ c.has_next.ensures.knows (c.without_delimiter-rest.ensures ∙ ap part c.split_at_delimiter.ensures.rest),
    )

pub loop-rest-preserved : goal.loop-rest-preserved
loop-rest-preserved g c =
    let some : option_copied c.loop-rest.rest ≡ Some c.in-Some.left.now = search rules in
    let yes : c.has_next.result ≡ true = search rules in (
      next_past (TestStep (g.T.PairTest.passes c.args.test.now)) _ _ _ _ _ c.in-Some.left.now _ _ c.has_next.result _ c.loop-rest.invariant.0 some c.split_at_delimiter.ensures.front c.has_next.ensures.answer yes
          (c.without_delimiter-rest.ensures ∙ ap part c.split_at_delimiter.ensures.rest),
      known_after _ _ c.in-Some.left.now _ c.has_next.ensures.knows (c.without_delimiter-rest.ensures ∙ ap part c.split_at_delimiter.ensures.rest),
    )

pub returns : goal.returns
returns g c =
    let none : option_copied c.loop-rest.rest ≡ None = search rules in
    others_last _ _ _ _ c.loop-rest.invariant.0 none

pub loop-rest-init : goal.loop-rest-init
loop-rest-init g c = (search rules, c.nothing-ahead.ensures _ _)
