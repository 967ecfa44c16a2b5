use Rattle.std.proofs.Common.{◌≡◌, ◌≤◌, [], take, drop, length}
use Rattle.std.specs.Prelude.{reverse}
use Rattle.uriparse_path.specs.Relative as relative
use Rattle.uriparse_path.proofs.path.reduce.reduce.Given as goal

abbrev pub invariant-loop-at : goal.invariant-loop-at
invariant-loop-at l = record {
  order : l.kept ≤ l.at;
  long : length l.segments ≡ length l.initial.segments;
  put : relative.put_all (reverse (take l.kept l.segments)) (drop l.at l.segments) ≡ relative.put_all [] l.fn.segments;
}
