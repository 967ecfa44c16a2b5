use Rattle.std.proofs.Common.{◌≤◌, ◌-◌, length}
use Rattle.uriparse_text.specs.Alike.{AreCommon}
use Rattle.uriparse_text.proofs.internal.equivalence.common_by_one.Given as goal

abbrev pub invariant-bytes : goal.invariant-bytes
invariant-bytes l = (l.at ≤ length l.left) × (l.at ≤ length l.right) × AreCommon l.left l.right l.at

abbrev pub decreases-bytes : goal.decreases-bytes
decreases-bytes l = length l.left - l.at
