use Rattle.std.proofs.Common.{◌≡◌, take}
use Rattle.uriparse_path.specs.Counts as spec
use Rattle.uriparse_path.proofs.path.counts.Counts.of.Given as goal

abbrev pub invariant-loop-at : goal.invariant-loop-at
invariant-loop-at l = l.counts ≡ spec.counts (take l.at l.segments)
