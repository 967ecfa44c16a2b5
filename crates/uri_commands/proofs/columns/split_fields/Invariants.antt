use Rattle.std.proofs.Common.{◌≡◌, ◌-◌, ◌≤◌, ◌++◌, ℕ, List}
use Rattle.uri_commands.specs.Columns.{AreFields}
use Rattle.uri_commands.proofs.columns.split_fields.Given as goal

abbrev pub invariant-fields : goal.invariant-fields
invariant-fields l = record {
  within : l.left ≤ l.count;
  front : (front : List ℕ) × (l.line ≡ front ++ l.rest) × AreFields (l.count - l.left) front;
}

abbrev pub decreases-fields : goal.decreases-fields
decreases-fields l = l.left
