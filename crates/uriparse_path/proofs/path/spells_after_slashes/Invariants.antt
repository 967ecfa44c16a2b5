use Rattle.uriparse_path.proofs.lemmas.text.SpelledAlikeLemmas.{IsAlikeFrom}
use Rattle.uriparse_path.proofs.path.spells_after_slashes.Given as goal

abbrev pub invariant-loop-segment : goal.invariant-loop-segment
invariant-loop-segment l = IsAlikeFrom l.fn.text l.segments l.segment-index l.rest
