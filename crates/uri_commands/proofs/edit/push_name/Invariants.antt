use Rattle.std.proofs.Common.{◌≡◌, ◌++◌, take}
use Rattle.uri_commands.specs.Edits.{name_text}
use Rattle.uri_commands.proofs.edit.push_name.Given as goal

abbrev pub invariant-loop-b : goal.invariant-loop-b
invariant-loop-b l = l.names.items ≡ l.initial.names.items ++ name_text (take l.b-index l.name)
