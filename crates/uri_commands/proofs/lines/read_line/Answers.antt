use Rattle.std.proofs.Common.{◌≡◌}
use Rattle.uri_commands.specs.declared.lines.Next.TheVariants.{LastLine}
use Rattle.uri_commands.proofs.LineLemmas.{nothing_left}
use Rattle.uri_commands.proofs.lines.read_line.Goals as goal

pub returns-clause-last : goal.returns-clause-last
returns-clause-last g c = λ e.
    let last : c.drop_end.result ≡ LastLine = cc in
    nothing_left c.args.end _ _ _ _ c.clear.ensures.items c.in_ok-read_until.ensures.bytes c.in_ok-read_until.ensures.rest
    (c.drop_end.ensures.last last)
