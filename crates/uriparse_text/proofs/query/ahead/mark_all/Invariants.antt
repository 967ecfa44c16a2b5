use Rattle.std.specs.Option.{option_copied}
use Rattle.uriparse_text.proofs.lemmas.readings.AheadLemmas.{Marking}
use Rattle.uriparse_text.proofs.lemmas.readings.WithoutLemmas.{left_of}
use Rattle.uriparse_text.proofs.query.ahead.mark_all.Given as goal

abbrev pub invariant-loop-rest : goal.invariant-loop-rest
invariant-loop-rest l = Marking l.fn.names (option_copied l.rest) l.fn.firsts l.answers

abbrev pub decreases-loop-rest : goal.decreases-loop-rest
decreases-loop-rest l = left_of (option_copied l.rest)
