use Rattle.std.proofs.Common.{◌≡◌, ◌-◌, ◌≤◌, drop, length, map}
use Rattle.uri_commands.specs.Edits.{are_readable, edit_of}
use Rattle.uri_commands.proofs.EditLemmas.{StepsMake}
use Rattle.uri_commands.proofs.edit.read_changes.Given as goal

abbrev pub invariant-changes : goal.invariant-changes
invariant-changes l = record {
  within : l.index ≤ length l.changes;
  readable : are_readable (map edit_of l.changes) ≡ are_readable (map edit_of (drop l.index l.changes));
  makes : StepsMake (map edit_of l.changes) l.steps.items (map edit_of (drop l.index l.changes));
}

abbrev pub decreases-changes : goal.decreases-changes
decreases-changes l = length l.changes - l.index
