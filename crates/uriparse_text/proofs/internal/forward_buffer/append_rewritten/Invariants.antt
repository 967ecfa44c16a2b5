use Rattle.std.proofs.Common.{length}
use Rattle.uriparse_text.proofs.lemmas.tokens.StartLemmas.{Writing}
use Rattle.uriparse_text.proofs.internal.forward_buffer.append_rewritten.Given as goal

abbrev pub invariant-pieces : goal.invariant-pieces
invariant-pieces g l =
    Writing (g.R.Rewriting.rewritten l.way l.text) (g.R.Rewriting.rewritten l.way l.rest) l.initial.out l.initial.total l.out l.total

abbrev pub decreases-pieces : goal.decreases-pieces
decreases-pieces g l = length l.rest
