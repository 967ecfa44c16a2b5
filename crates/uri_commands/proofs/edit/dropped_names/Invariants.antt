use Rattle.std.proofs.Common.{◌-◌, length}
use Rattle.uri_commands.specs.Edits.{DropsPairs}
use Rattle.uri_commands.proofs.edit.dropped_names.Given as goal

abbrev pub invariant-others : goal.invariant-others
invariant-others l = DropsPairs l.fn.name l.others l.names.items l.count

abbrev pub decreases-others : goal.decreases-others
decreases-others l = length l.others - l.count
