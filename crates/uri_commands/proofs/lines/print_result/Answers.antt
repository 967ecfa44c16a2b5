use Rattle.uri_commands.proofs.OutputsLemmas.{empty_fields}
use Rattle.uri_commands.proofs.lines.print_result.Goals as goal

pub returns-in_ok-resize-clause-ok : goal.returns-in_ok-resize-clause-ok
returns-in_ok-resize-clause-ok g c =
    let did = c.in_ok-outcome.ensures.ok in (
      did.0,
      did.1,
      did.2,
      empty_fields c.args.work.now.fields _ _ _ _ _ did.0 c.saturating_sub.ensures c.clear.ensures.len c.clear.ensures.items
          c.in_ok-resize.ensures.items c.in-Rejected.is did.2,
    )
