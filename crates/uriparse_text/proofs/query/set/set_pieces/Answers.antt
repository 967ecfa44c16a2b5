use Rattle.std.proofs.Common.{◌≡◌, false, Some, None, ap, ◌∙◌, rules}
use Rattle.std.specs.Option.{option_copied}
use Rattle.uriparse_text.specs.Cuts.{part}
use Rattle.uriparse_text.proofs.lemmas.readings.SetLemmas.{none_copied, setting_next, setting_open}
use Rattle.uriparse_text.proofs.lemmas.readings.WithoutLemmas.{next_smaller}
use Rattle.uriparse_text.proofs.query.set.set_pieces.Goals as goal

pub loop-rest-smaller : goal.loop-rest-smaller
loop-rest-smaller c =
    let some : option_copied c.loop-rest.rest ≡ Some c.in-Some.left.now = search rules in
    next_smaller _ c.in-Some.left.now _ some (c.without_delimiter-rest.ensures ∙ ap part c.split_at_delimiter.ensures.rest)

pub loop-rest-preserved : goal.loop-rest-preserved
loop-rest-preserved c =
    let some : option_copied c.loop-rest.rest ≡ Some c.in-Some.left.now = search rules in (
      setting_next _ _ _ _ _ _ _ c.in-Some.left.now _ _ _ _ c.loop-rest.invariant.0 some c.split_at_delimiter.ensures.front
          (c.without_delimiter-rest.ensures ∙ ap part c.split_at_delimiter.ensures.rest) (none_copied c.without_delimiter-rest.result _ c.is_none.ensures)
          c.in_ok-is_set.ensures.set c.in_ok-is_set.ensures.text,
      c.in_ok-is_set.ensures.bytes c.loop-rest.invariant.1,
    )

pub returns-clause-text : goal.returns-clause-text
returns-clause-text c =
    let none : option_copied c.loop-rest.rest ≡ None = search rules in
    let open_still : c.loop-rest.is_set ≡ false = search rules in
    setting_open _ _ _ _ _ _ _ c.loop-rest.invariant.0 open_still none c.in_ok-push_ended.ensures.text
