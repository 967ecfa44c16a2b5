use Rattle.std.proofs.Common.{◌≡◌, ◌++◌, length}
use Rattle.uriparse_text.proofs.internal.rewrite.push_rewritten.Given as goal

abbrev pub invariant-pieces : goal.invariant-pieces
invariant-pieces g l =
    l.bytes.items ++ g.R.Rewriting.rewritten l.way l.rest ≡ l.initial.bytes.items ++ g.R.Rewriting.rewritten l.way l.text

abbrev pub decreases-pieces : goal.decreases-pieces
decreases-pieces g l = length l.rest
