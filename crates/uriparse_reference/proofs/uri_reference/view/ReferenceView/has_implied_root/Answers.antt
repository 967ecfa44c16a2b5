use Rattle.std.proofs.Common.{length, sym, ap, ◌∙◌, ◌&&◌}
use Rattle.std.specs.Prelude.{◌==◌, is_some}
use Rattle.uriparse_reference.specs.Cuts.{path_text}
use Rattle.uriparse_reference.specs.View.{Viewed}
use Rattle.uriparse_reference.proofs.uri_reference.view.ReferenceView.has_implied_root.Goals as goal

pub returns-then-is_empty : goal.returns-then-is_empty
returns-then-is_empty c =
    let read = c.self.invariant.is_cut ∙ ap (λ (v : Viewed). path_text v.text) c.self.view_is in
    c.has_authority.ensures
    ∙ ap (λ v. v && is_some c.args.self.now.parts.authority) (sym c.if-is_empty.true ∙ c.is_empty.ensures ∙ ap (λ t. length t == 0) read)

pub returns-else-is_empty : goal.returns-else-is_empty
returns-else-is_empty c =
    let read = c.self.invariant.is_cut ∙ ap (λ (v : Viewed). path_text v.text) c.self.view_is in
    c.if-is_empty.false
    ∙ ap (λ v. v && is_some c.args.self.now.parts.authority) (sym c.if-is_empty.false ∙ c.is_empty.ensures ∙ ap (λ t. length t == 0) read)
