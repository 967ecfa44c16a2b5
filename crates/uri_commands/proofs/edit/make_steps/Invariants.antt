use Rattle.std.proofs.Common.{◌≡◌, Some, take}
use Rattle.uri_commands.specs.Edits.{steps_made}
use Rattle.uri_commands.proofs.edit.make_steps.Given as goal

abbrev pub invariant-loop-step : goal.invariant-loop-step
invariant-loop-step l = steps_made (take l.step-index l.steps) l.initial.reference ≡ Some l.reference
