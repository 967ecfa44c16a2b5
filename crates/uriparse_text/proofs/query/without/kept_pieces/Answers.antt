use Rattle.std.proofs.Common.{◌≡◌, ◌++◌, ◌∷◌, [], true, false, Some, None, sym, ap, subst, ◌∙◌, rules}
use Rattle.std.specs.Option.{option_copied}
use Rattle.uriparse_text.specs.Bytes.{ampersand}
use Rattle.uriparse_text.specs.Cuts.{part}
use Rattle.uriparse_text.specs.Query.{IsQuery}
use Rattle.uriparse_text.proofs.lemmas.readings.PairLemmas.{query_pieces, some_query}
use Rattle.uriparse_text.proofs.lemmas.readings.WithoutLemmas.{going_last, next_on, next_past, next_smaller}
use Rattle.uriparse_text.proofs.query.without.kept_pieces.Goals as goal

pub passes-requires-clause-query : goal.passes-requires-clause-query
passes-requires-clause-query g c =
    let some : option_copied c.loop-rest.rest ≡ Some c.in-Some.left.now = search rules in
    subst IsQuery (sym c.split_at_delimiter.ensures.front) (query_pieces c.in-Some.left.now (some_query _ c.in-Some.left.now c.loop-rest.invariant.1.query some)).0

pub loop-rest-smaller-in-Continue-branch-3 : goal.loop-rest-smaller-in-Continue-branch-3
loop-rest-smaller-in-Continue-branch-3 g c =
    let some : option_copied c.loop-rest.rest ≡ Some c.in-Some.left.now = search rules in
    next_smaller _ c.in-Some.left.now _ some (c.without_delimiter-rest.ensures ∙ ap part c.split_at_delimiter.ensures.rest)

pub loop-rest-smaller : goal.loop-rest-smaller
loop-rest-smaller g c =
    let some : option_copied c.loop-rest.rest ≡ Some c.in-Some.left.now = search rules in
    next_smaller _ c.in-Some.left.now _ some (c.without_delimiter-rest.ensures ∙ ap part c.split_at_delimiter.ensures.rest)

pub loop-rest-preserved-in-Continue-branch-3 : goal.loop-rest-preserved-in-Continue-branch-3
loop-rest-preserved-in-Continue-branch-3 g c =
    let some : option_copied c.loop-rest.rest ≡ Some c.in-Some.left.now = search rules in
    let no : c.passes.result ≡ false = search rules in
    let more : c.push.new.self.items ≡ (c.loop-rest.text.items ++ c.split_at_delimiter.result.0.now) ++ ampersand ∷ [] = search rules in (
      c.passes.ensures.again,
      next_on _ _ _ _ _ _ c.in-Some.left.now _ _ _ _ _ c.loop-rest.invariant.1 some c.split_at_delimiter.ensures.front c.passes.ensures.step no
          (c.without_delimiter-rest.ensures ∙ ap part c.split_at_delimiter.ensures.rest) more,
    )

pub loop-rest-preserved : goal.loop-rest-preserved
loop-rest-preserved g c =
    let some : option_copied c.loop-rest.rest ≡ Some c.in-Some.left.now = search rules in
    let yes : c.passes.result ≡ true = search rules in (
      c.passes.ensures.again,
      next_past _ _ _ _ _ _ c.in-Some.left.now _ _ _ _ c.loop-rest.invariant.1 some c.split_at_delimiter.ensures.front c.passes.ensures.step yes
          (c.without_delimiter-rest.ensures ∙ ap part c.split_at_delimiter.ensures.rest),
    )

pub returns : goal.returns
returns g c =
    let none : option_copied c.loop-rest.rest ≡ None = search rules in
    going_last _ _ _ _ _ _ c.loop-rest.invariant.1 none
