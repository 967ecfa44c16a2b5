use Rattle.std.proofs.Common.{◌-◌, ◌<◌, ◌≤◌, length}
use Rattle.uriparse_path.specs.Last.{LacksDotsAfter}
use Rattle.uriparse_path.proofs.path.text.last.last_dots_by_runs.Given as goal

abbrev pub invariant-runs : goal.invariant-runs
invariant-runs l = record {
  some : 0 < l.end;
  within : l.end ≤ length l.text;
  later : LacksDotsAfter (l.end - 1) l.text;
}

abbrev pub decreases-runs : goal.decreases-runs
decreases-runs l = l.end
