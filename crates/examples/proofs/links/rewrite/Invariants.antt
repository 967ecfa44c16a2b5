use Rattle.std.proofs.Common.{take}
use Rattle.examples.specs.Links.{AreTargets}
use Rattle.examples.proofs.links.rewrite.Given as goal

abbrev pub invariant-loop-index : goal.invariant-loop-index
invariant-loop-index l = AreTargets l.base (take l.index l.links) l.targets.items
