use Rattle.std.proofs.Common.{◌≡◌, length}
use Rattle.std.specs.Ordering.{nat_cmp}
use Rattle.std.specs.Cmp.Lexicographic.{slice_cmp}
use Rattle.std.specs.Str.{str_to_ascii_lowercase}
use Rattle.uriparse_scheme.proofs.scheme.find.compare_lowered.Given as goal

abbrev pub invariant-bytes : goal.invariant-bytes
invariant-bytes l = slice_cmp nat_cmp l.name (str_to_ascii_lowercase l.text) ≡ slice_cmp nat_cmp l.left (str_to_ascii_lowercase l.right)

abbrev pub decreases-bytes : goal.decreases-bytes
decreases-bytes l = length l.left
