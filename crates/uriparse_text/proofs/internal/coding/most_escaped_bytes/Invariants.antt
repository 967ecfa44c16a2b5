use Rattle.std.proofs.Common.{◌≤◌, ◌-◌, length}
use Rattle.uriparse_text.proofs.internal.coding.most_escaped_bytes.Given as goal

abbrev pub invariant-runs : goal.invariant-runs
invariant-runs l = l.at ≤ length l.text

abbrev pub decreases-runs : goal.decreases-runs
decreases-runs l = length l.text - l.at
