use Rattle.std.proofs.Common.{refl, sym, ap, ◌∙◌}
use Rattle.std.specs.Option.{option_map}
use Rattle.uri_commands.specs.Edits.{edit_of}
use Rattle.uri_commands.proofs.EditLemmas.{third_edit}
use Rattle.uri_commands.proofs.edit.first_change.Goals as goal

pub returns-in-Some-pair_change-clause-edits : goal.returns-in-Some-pair_change-clause-edits
returns-in-Some-pair_change-clause-edits c =
    third_edit c.args.words.now _ _ _ _ _ _ refl refl c.in-len1-up.len_at_least c.in-len1-up-values.len_at_least
    c.in-len1-up-more.len_at_least
    (sym c.plain_change.ensures ∙ ap (option_map edit_of) c.in_default-plain_change.is)
    (sym c.valued_change.ensures ∙ ap (option_map edit_of) c.in_default-valued_change.is)
    (sym c.pair_change.ensures ∙ ap (option_map edit_of) c.in-Some-pair_change.is)
