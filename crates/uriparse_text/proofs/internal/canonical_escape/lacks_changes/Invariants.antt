use Rattle.std.proofs.Common.{◌≤◌, ◌-◌, length}
use Rattle.uriparse_text.specs.Escapes.{NoneChanged}
use Rattle.uriparse_text.proofs.internal.canonical_escape.lacks_changes.Given as goal

abbrev pub invariant-runs : goal.invariant-runs
invariant-runs l = NoneChanged l.text l.at × (l.at ≤ length l.text)

abbrev pub decreases-runs : goal.decreases-runs
decreases-runs l = length l.text - l.at
