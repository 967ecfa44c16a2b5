use Rattle.std.proofs.Common.{◌≡◌, ◌≤◌, [], take, drop, length}
use Rattle.uriparse_path.specs.Dots as spec
use Rattle.uriparse_path.proofs.path.dots.replay.Given as goal

abbrev pub invariant-loop-at : goal.invariant-loop-at
invariant-loop-at l = record {
  order : l.kept ≤ l.at;
  long : length l.segments ≡ length l.initial.segments;
  segments : spec.replay (take l.kept l.segments) (drop l.at l.segments) ≡ spec.replay [] l.fn.segments;
  root : spec.rooted_after l.rooted (take l.kept l.segments) (drop l.at l.segments) ≡ spec.rooted_after l.fn.absolute [] l.fn.segments;
}
