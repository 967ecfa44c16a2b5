use Rattle.std.proofs.Common.{◌≡◌, ◌++◌, take}
use Rattle.uriparse_path.proofs.path.segments.push_borrowed.Given as goal

abbrev pub invariant-loop-segment : goal.invariant-loop-segment
invariant-loop-segment l = l.list.items ≡ l.fn.list.items ++ take l.segment-index l.segments
