use Rattle.uriparse.specs.Pairs.{pairs}
use Rattle.uri_commands.specs.Output.{pair_lines}
use Rattle.uri_commands.proofs.OutputLemmas.{WritingPairs}
use Rattle.uri_commands.proofs.pairs.print_pairs.Given as goal

abbrev pub invariant-loop-pair : goal.invariant-loop-pair
invariant-loop-pair g l =
    WritingPairs (g.O.Write.contents l.initial.out) (g.O.Write.contents l.out) l.pair-iterator (pair_lines (pairs l.query))
