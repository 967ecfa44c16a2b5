use Rattle.std.proofs.Common.{◌≤◌, ◌-◌, length}
use Rattle.uriparse_text.specs.Escapes.{NoneChanged, Raises}
use Rattle.uriparse_text.proofs.internal.canonical_escape.raise_digits.Given as goal

abbrev pub invariant-runs : goal.invariant-runs
invariant-runs l = NoneChanged l.text l.at × (l.at ≤ length l.text) × Raises l.initial.text l.text

abbrev pub decreases-runs : goal.decreases-runs
decreases-runs l = length l.text - l.at
