use Rattle.uri_commands.proofs.EditLemmas.{on_edits}
use Rattle.uri_commands.proofs.commands.run_edit.Goals as goal

pub returns-in-len1-up : goal.returns-in-len1-up
returns-in-len1-up g c = on_edits c.args.texts.now _ _ _ _ c.in-len1-up.len_at_least c.edit.ensures
