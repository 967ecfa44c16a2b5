use Rattle.uri_commands.proofs.OutputsLemmas.{wrote_plain, wrote_row}
use Rattle.uri_commands.proofs.lines.print_line.Goals as goal

pub returns-in-Some-clause-ok : goal.returns-in-Some-clause-ok
returns-in-Some-clause-ok g c =
    wrote_row c.args.work.now c.in-Some.columns c.args.line.now _ c.print_row.result c.in-Some.is c.print_row.ensures.row

pub returns-in-None-clause-ok : goal.returns-in-None-clause-ok
returns-in-None-clause-ok g c = wrote_plain c.args.work.now c.args.line.now _ c.print_plain.result c.in-None.is c.print_plain.ensures.ok
