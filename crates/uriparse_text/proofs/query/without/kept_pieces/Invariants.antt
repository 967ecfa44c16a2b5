use Rattle.std.specs.Option.{option_copied}
use Rattle.uriparse_text.proofs.lemmas.readings.WithoutLemmas.{Going, left_of}
use Rattle.uriparse_text.proofs.query.without.kept_pieces.Given as goal

abbrev pub invariant-loop-rest : goal.invariant-loop-rest
invariant-loop-rest g l =
    goal.F-IsAlwaysCallable g l.test
    × Going (goal.F-step g) l.fn.test l.fn.query l.test (option_copied l.rest) l.text.items

abbrev pub decreases-loop-rest : goal.decreases-loop-rest
decreases-loop-rest g l = left_of (option_copied l.rest)
