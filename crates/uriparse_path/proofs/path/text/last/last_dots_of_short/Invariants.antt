use Rattle.std.proofs.Common.{◌≤◌, length}
use Rattle.uriparse_path.specs.Last.{LacksDotsAfter}
use Rattle.uriparse_path.proofs.path.text.last.last_dots_of_short.Given as goal

abbrev pub invariant-bytes : goal.invariant-bytes
invariant-bytes l = record {
  within : l.at ≤ length l.text;
  later : LacksDotsAfter l.at l.text;
}

abbrev pub decreases-bytes : goal.decreases-bytes
decreases-bytes l = l.at
