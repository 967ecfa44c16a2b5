use Rattle.std.proofs.Common.{◌≡◌, ◌++◌, length, drop, codes, flat_map}
use Rattle.std.specs.Net.Text as text
use Rattle.uriparse_text.specs.Ends.{Puts}
use Rattle.uriparse_text.proofs.address.printed.prepend_after_colons.Given as goal

abbrev pub invariant-loop-i : goal.invariant-loop-i
invariant-loop-i l = record {
  room : length l.out ≡ length l.initial.out;
  puts : Puts (flat_map (λ s. codes ":" ++ text.hex s) (drop l.i l.segments)) l.initial.out l.initial.total l.out l.total;
}
