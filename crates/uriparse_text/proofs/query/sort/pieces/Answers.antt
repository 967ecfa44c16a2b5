use Rattle.std.proofs.Common.{◌≡◌, ◌++◌, ◌∷◌, [], map, Some, ap, ◌∙◌, rules}
use Rattle.std.specs.Option.{option_copied}
use Rattle.std.proofs.lemmas.List.{map-append}
use Rattle.uriparse_text.specs.Cuts.{part}
use Rattle.uriparse_text.proofs.lemmas.readings.SortLemmas.{cutting_next}
use Rattle.uriparse_text.proofs.lemmas.readings.WithoutLemmas.{next_smaller}
use Rattle.uriparse_text.proofs.query.sort.pieces.Goals as goal

pub loop-rest-smaller : goal.loop-rest-smaller
loop-rest-smaller c =
    let some : option_copied c.loop-rest.rest ≡ Some c.in-Some.left.now = search rules in
    next_smaller _ c.in-Some.left.now _ some (c.without_delimiter-rest.ensures ∙ ap part c.split_at_delimiter.ensures.rest)

pub loop-rest-preserved : goal.loop-rest-preserved
loop-rest-preserved c =
    let some : option_copied c.loop-rest.rest ≡ Some c.in-Some.left.now = search rules in
    let more : c.push.new.self.items ≡ c.loop-rest.pieces.items ++ c.split_at_delimiter.result.0 ∷ [] = search rules in
    cutting_next _ _ c.in-Some.left.now _ _ _ _ c.loop-rest.invariant some c.split_at_delimiter.ensures.front
    (c.without_delimiter-rest.ensures ∙ ap part c.split_at_delimiter.ensures.rest)
    (ap (map (λ s. s.now)) more ∙ map-append (λ s. s.now) c.loop-rest.pieces.items (c.split_at_delimiter.result.0 ∷ []))
