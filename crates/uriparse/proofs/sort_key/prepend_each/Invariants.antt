use Rattle.std.proofs.Common.{◌≡◌, length, drop, flat_map}
use Rattle.uriparse_text.specs.Ends.{Puts}
use Rattle.uriparse.specs.SortKey.{digits}
use Rattle.uriparse.proofs.sort_key.prepend_each.Given as goal

abbrev pub invariant-loop-i : goal.invariant-loop-i
invariant-loop-i l = record {
  room : length l.out ≡ length l.initial.out;
  puts : Puts (flat_map (digits 16 4) (drop l.i l.segments)) l.initial.out l.initial.total l.out l.total;
}
