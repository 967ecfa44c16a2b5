use Rattle.std.proofs.Common.{◌∙◌, ◌∷◌, ◌++◌, [], ap, rules}
use Rattle.uri_commands.specs.Outputs.{first_line}
use Rattle.uri_commands.proofs.OutputsLemmas.{ended_cut}
use Rattle.uri_commands.proofs.lines.end_line.Goals as goal

pub returns-clause-ok : goal.returns-clause-ok
returns-clause-ok c =
    c.in_ok-push.ensures.items ∙ ap (λ t. t ++ c.args.end ∷ []) c.truncate.ensures.items
    ∙ ended_cut c.args.end _ c.args.output.now.items c.first_line-count.result.now (search rules)
    (c.first_line-count.ensures ∙ ap (first_line c.args.end) c.deref.ensures.value) (search rules)
