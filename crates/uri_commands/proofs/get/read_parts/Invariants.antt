use Rattle.std.proofs.Common.{◌≡◌, Some, map}
use Rattle.uri_commands.specs.Output.{parts_of}
use Rattle.uri_commands.proofs.get.read_parts.Given as goal

abbrev pub invariant-loop-name : goal.invariant-loop-name
invariant-loop-name l = record {
  can_next : (goal.iterator-loop-name).can_next l.name-iterator;
  is_finite : (goal.iterator-loop-name).is_finite l.name-iterator;
  read : parts_of (map (λ x. x.now) l.yielded) ≡ Some l.parts.items;
}
