use Rattle.std.proofs.Common.{◌≡◌, ℕ, List, length}
use Rattle.uriparse_text.specs.Ends.{EndsWith}
use Rattle.uriparse_path.specs.Remaining.{with_parent_steps}
use Rattle.uriparse_path.proofs.path.text.write.prepend_parent_steps.Given as goal

abbrev pub invariant-loop : goal.invariant-loop
invariant-loop l = record {
  room : length l.out ≡ length l.initial.out;
  puts : (t : List ℕ) → EndsWith l.initial.out l.initial.total t → EndsWith l.out l.total (with_parent_steps l.counter t);
}
