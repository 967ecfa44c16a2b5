use Rattle.std.proofs.Common.{ap, ◌∙◌}
use Rattle.uriparse.specs.Disagreement.{disagreement}
use Rattle.uriparse.specs.View.{Viewed}
use Rattle.uri_commands.proofs.OutputLemmas.{kept_view}
use Rattle.uri_commands.proofs.audit.reason_of.Goals as goal

-- src/audit.rt:58:1
pub returns-in-Ok : goal.returns-in-Ok
returns-in-Ok c = c.disagreement.ensures ∙ ap (λ (v : Viewed). disagreement v.parts) (kept_view _ c.args.reference c.in-Ok.uri _ c.in-Ok.ensures)
