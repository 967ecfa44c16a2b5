use Rattle.std.proofs.Common.{length}
use Rattle.uriparse_text.specs.declared.internal.token.Case.TheVariants.{Kept}
use Rattle.uriparse_text.specs.Canonical.{canonical_in}
use Rattle.uriparse_text.proofs.lemmas.canonical.SpellingLengthLemmas.{IsCounted}
use Rattle.uriparse_text.proofs.internal.canonical.short_spelling_len.Given as goal

abbrev pub invariant-pieces : goal.invariant-pieces
invariant-pieces l = IsCounted (length (canonical_in Kept l.text)) l.len l.rest

abbrev pub decreases-pieces : goal.decreases-pieces
decreases-pieces l = length l.rest
