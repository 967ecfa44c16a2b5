use Rattle.std.specs.Prelude.{not}
use Rattle.std.specs.List.{filter}
use Rattle.std.specs.Option.{option_copied}
use Rattle.uriparse_text.specs.Ahead.{Knows}
use Rattle.uriparse_text.specs.Pairs.{pairs_left}
use Rattle.uriparse_text.proofs.lemmas.readings.PutPairLemmas.{led}
use Rattle.uriparse_text.proofs.lemmas.readings.WithoutLemmas.{left_of}
use Rattle.uriparse_text.proofs.lemmas.tokens.StartLemmas.{Writing}
use Rattle.uriparse_text.proofs.query.put.append_others.Given as goal

abbrev pub invariant-loop-rest : goal.invariant-loop-rest
invariant-loop-rest g l =
    Writing (led (filter (λ p. not (g.T.PairTest.passes l.fn.test p)) (pairs_left (option_copied l.initial.rest))))
    (led (filter (λ p. not (g.T.PairTest.passes l.fn.test p)) (pairs_left (option_copied l.rest)))) l.initial.out l.initial.total l.out l.total
    × Knows (g.T.PairTest.seen l.fn.test) l.ahead (pairs_left (option_copied l.rest))

abbrev pub decreases-loop-rest : goal.decreases-loop-rest
decreases-loop-rest g l = left_of (option_copied l.rest)
