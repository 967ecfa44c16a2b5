use Rattle.std.proofs.Common.{◌≡◌, ℕ, ◌+◌, ◌-◌, ◌<◌, ◌≤◌}
use Rattle.std.specs.Int.{bit_at}
use Rattle.uriparse_path.specs.Last.{LacksDotsAfter}
use Rattle.uriparse_path.proofs.path.text.last.last_dots_marked.Given as goal

abbrev pub invariant-marks : goal.invariant-marks
invariant-marks l = record {
  below : l.end ≤ l.count;
  kept : (k : ℕ) → k < l.end → bit_at l.left k ≡ bit_at l.marks k;
  gone : (k : ℕ) → l.end ≤ k → bit_at l.left k ≡ 0;
  later : LacksDotsAfter (l.at - 1 + l.end) l.text;
}

abbrev pub decreases-marks : goal.decreases-marks
decreases-marks l = l.end
