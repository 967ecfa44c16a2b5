use Rattle.std.specs.Option.{option_copied}
use Rattle.uriparse_text.specs.Ahead.{Knows}
use Rattle.uriparse_text.specs.Pairs.{pairs_left}
use Rattle.uriparse_text.proofs.lemmas.readings.NamedLemmas.{Seeking}
use Rattle.uriparse_text.proofs.lemmas.readings.WithoutLemmas.{left_of}
use Rattle.uriparse_text.proofs.query.find.find_pair.Given as goal

abbrev pub invariant-loop-rest : goal.invariant-loop-rest
invariant-loop-rest g l =
    Seeking (g.T.PairTest.passes l.fn.test) l.fn.query (option_copied l.rest)
    × Knows (g.T.PairTest.seen l.fn.test) l.ahead (pairs_left (option_copied l.rest))

abbrev pub decreases-loop-rest : goal.decreases-loop-rest
decreases-loop-rest g l = left_of (option_copied l.rest)
