use Rattle.std.specs.Option.{option_copied}
use Rattle.uriparse_text.proofs.lemmas.readings.AheadLemmas.{Filling}
use Rattle.uriparse_text.proofs.query.ahead.first_names.Given as goal

abbrev pub invariant-loop-at : goal.invariant-loop-at
invariant-loop-at l = Filling l.fn.query (option_copied l.rest) l.at l.names
