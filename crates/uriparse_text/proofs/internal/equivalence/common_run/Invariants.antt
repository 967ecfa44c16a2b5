use Rattle.std.proofs.Common.{◌≤◌, ◌-◌}
use Rattle.uriparse_text.specs.Alike.{AreCommon}
use Rattle.uriparse_text.proofs.internal.equivalence.common_run.Given as goal

abbrev pub invariant-runs : goal.invariant-runs
invariant-runs l = (l.at ≤ l.len) × AreCommon l.left l.right l.at

abbrev pub decreases-runs : goal.decreases-runs
decreases-runs l = l.len - l.at
