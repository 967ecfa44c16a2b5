use Rattle.std.proofs.Common.{map}
use Rattle.uri_commands.proofs.RunLemmas.{asked_nothing}
use Rattle.uri_commands.proofs.run_with_input.Goals as goal

pub returns-in-None-clause-ends : goal.returns-in-None-clause-ends
returns-in-None-clause-ends g c =
    asked_nothing (map (λ w. w.now) c.args.words.now) (map (λ w. w.now) c.split_options.result.2.now) c.split_options.result.0 c.split_options.result.1
    (g.I.Read.remaining c.args.input.now) (g.O.Write.contents c.args.out.now) c.status_of.result c.split_options.ensures c.in-None.is c.status_of.ensures.is
