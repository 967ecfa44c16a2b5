use Rattle.std.proofs.Common.{◌≡◌, ◌-◌, ◌≤◌, length, take}
use Rattle.uriparse_path.proofs.path.relate.are_same.Given as goal

abbrev pub invariant-segments : goal.invariant-segments
invariant-segments l = (take l.at l.left ≡ take l.at l.right) × (l.at ≤ length l.left)

abbrev pub decreases-segments : goal.decreases-segments
decreases-segments l = length l.left - l.at
