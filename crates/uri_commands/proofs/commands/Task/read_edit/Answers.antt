use Rattle.std.proofs.Common.{map, refl}
use Rattle.uri_commands.proofs.TaskLemmas.{reads_steps}
use Rattle.uri_commands.proofs.commands.Task.read_edit.Goals as goal

pub returns : goal.returns
returns c = reads_steps (map (λ w. w.now) c.args.words.now) c.in_ok-read_edits.field-0 _ c.in_ok-read_edits.ensures refl
