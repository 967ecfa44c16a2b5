use Rattle.std.proofs.Common.{rules}
use Rattle.uri_commands.proofs.OutputLemmas.{pairs_end, pairs_next}
use Rattle.uri_commands.proofs.pairs.print_pairs.Goals as goal

pub loop-pair-preserved : goal.loop-pair-preserved
loop-pair-preserved g c = search (rules, pairs_next, c.loop-pair.invariant, c.in-Some.ensures.steps, c.in_ok-print_pair.ensures)

pub returns : goal.returns
returns g c = search (rules, pairs_end, c.loop-pair.invariant, c.in-None.ensures.steps)
