use Rattle.std.proofs.Common.{◌∷◌, map, refl}
use Rattle.uri_commands.proofs.RunLemmas.{answer_ended}
use Rattle.uri_commands.proofs.run_command.Goals as goal

pub returns-clause-ends : goal.returns-clause-ends
returns-clause-ends g c =
    answer_ended _ _ c.args.options (c.args.name.now ∷ map (λ w. w.now) c.args.texts.now) _ _ c.print_answer-result.result c.status_of-2.result
    c.if-options.false refl c.print_answer-result.ensures.does c.print_answer-result.ensures.finds c.status_of-2.ensures.is
