use Rattle.std.proofs.Common.{◌≡◌, ◌++◌, drop}
use Rattle.uriparse_path.specs.Copies.{placed}
use Rattle.uriparse_path.proofs.path.normal.canonical_copies.Given as goal

abbrev pub invariant-loop-at : goal.invariant-loop-at
invariant-loop-at l = l.copies.items ++ placed l.at (drop l.at l.segments) ≡ placed 0 l.segments
