use Rattle.std.proofs.Common.{◌≡◌, Some, None, ap, ◌∙◌, rules}
use Rattle.std.specs.Option.{option_copied}
use Rattle.uriparse_text.specs.Cuts.{part}
use Rattle.uriparse_text.proofs.lemmas.readings.AheadLemmas.{marking_first, marking_last, marking_next}
use Rattle.uriparse_text.proofs.lemmas.readings.WithoutLemmas.{next_smaller}
use Rattle.uriparse_text.proofs.query.ahead.mark_all.Goals as goal

pub loop-rest-init : goal.loop-rest-init
loop-rest-init c = marking_first c.args.names.now c.args.firsts.now c.args.answers.now c.told-answers c.requires.none

pub loop-rest-smaller : goal.loop-rest-smaller
loop-rest-smaller c =
    let some : option_copied c.loop-rest.rest ≡ Some c.in-Some.left.now = search rules in
    next_smaller _ c.in-Some.left.now _ some (c.without_delimiter-rest.ensures ∙ ap part c.split_at_delimiter.ensures.rest)

pub loop-rest-preserved : goal.loop-rest-preserved
loop-rest-preserved c =
    let some : option_copied c.loop-rest.rest ≡ Some c.in-Some.left.now = search rules in
    marking_next c.args.names.now _ c.in-Some.left.now c.split_at_delimiter.result.0.now _ c.split_at_delimiter-in-Some.result.0.now c.args.firsts.now c.loop-rest.answers _ c.loop-rest.invariant
    some c.split_at_delimiter.ensures.front (c.without_delimiter-rest.ensures ∙ ap part c.split_at_delimiter.ensures.rest) c.split_at_delimiter-in-Some.ensures.front c.mark.ensures

pub returns : goal.returns
returns c =
    let none : option_copied c.loop-rest.rest ≡ None = search rules in
    marking_last c.args.names.now _ c.args.firsts.now c.loop-rest.answers c.loop-rest.invariant none
