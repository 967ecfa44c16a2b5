use Rattle.std.proofs.Common.{◌≡◌, length}
use Rattle.std.specs.Cmp.Lexicographic.{slice_cmp}
use Rattle.std.specs.Ordering.{nat_cmp}
use Rattle.uriparse_text.specs.Coding.{decoded}
use Rattle.uriparse_text.proofs.internal.coding.compare_represented.Given as goal

abbrev pub invariant-tokens : goal.invariant-tokens
invariant-tokens l = slice_cmp nat_cmp (decoded l.rest) (decoded l.left) ≡ slice_cmp nat_cmp (decoded l.text) (decoded l.other)

abbrev pub decreases-tokens : goal.decreases-tokens
decreases-tokens l = length l.rest
