use Rattle.std.proofs.Common.{length}
use Rattle.uriparse_text.specs.Alike.{Follow}
use Rattle.uriparse_text.proofs.internal.equivalence.compare_spelling.Given as goal

abbrev pub invariant-tokens : goal.invariant-tokens
invariant-tokens l = Follow l.fn.case l.fn.left l.fn.right l.rest l.other

abbrev pub decreases-tokens : goal.decreases-tokens
decreases-tokens l = length l.rest
