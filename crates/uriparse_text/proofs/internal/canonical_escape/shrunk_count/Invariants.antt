use Rattle.std.proofs.Common.{◌≡◌, ◌+◌, ◌-◌, ◌≤◌, length, drop}
use Rattle.uriparse_text.specs.Escapes.{shrunk_count}
use Rattle.uriparse_text.proofs.internal.canonical_escape.shrunk_count.Given as goal

abbrev pub invariant-runs : goal.invariant-runs
invariant-runs l = (l.count + shrunk_count (drop l.at l.text) ≡ shrunk_count l.text) × (l.at ≤ length l.text)

abbrev pub decreases-runs : goal.decreases-runs
decreases-runs l = length l.text - l.at
