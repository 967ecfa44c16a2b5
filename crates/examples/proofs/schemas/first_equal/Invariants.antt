use Rattle.std.proofs.Common.{◌≡◌, false, take}
use Rattle.examples.specs.Equal.{is_among}
use Rattle.examples.proofs.schemas.first_equal.Given as goal

abbrev pub invariant-loop-index : goal.invariant-loop-index
invariant-loop-index l = is_among (take l.index l.uris) l.wanted ≡ false
