use Rattle.std.specs.Option.{option_copied}
use Rattle.std.proofs.Common.{map}
use Rattle.uriparse_text.proofs.lemmas.readings.SortLemmas.{Cutting}
use Rattle.uriparse_text.proofs.lemmas.readings.WithoutLemmas.{left_of}
use Rattle.uriparse_text.proofs.query.sort.pieces.Given as goal

abbrev pub invariant-loop-rest : goal.invariant-loop-rest
invariant-loop-rest l = Cutting l.query (option_copied l.rest) (map (λ s. s.now) l.pieces.items)

abbrev pub decreases-loop-rest : goal.decreases-loop-rest
decreases-loop-rest l = left_of (option_copied l.rest)
