use Rattle.std.proofs.Common.{◌≡◌, None, Some, false, rules, sym, ap, ◌∙◌}
use Rattle.std.specs.Prelude.{is_some}
use Rattle.uriparse_reference.specs.View.{Viewed}
use Rattle.uriparse_reference.specs.Reference.{host_of, username_of}
use Rattle.uriparse.specs.Disagreement.{first_reason}
use Rattle.uriparse.proofs.lemmas.DisagreementLawLemmas.{placed_base}
use Rattle.uriparse.proofs.uri.disagreement.placed_reason.Goals as goal

pub returns : goal.returns
returns c =
    let reference = c.args.reference.now.parts in
    let none : reference.scheme ≡ None = search rules in
    let bare : is_some reference.authority ≡ false = search rules in
    let base = c.args.base.now.parts in
    let scheme = c.scheme-2.result in
    c.reason_with-else-has_authority.ensures
    ∙ ap (λ (v : Viewed). first_reason (Some scheme) (host_of v.parts) (is_some (username_of v.parts)) c.segments-segments.result) c.as_reference_view.ensures.value
    ∙ ap (first_reason (Some scheme) (host_of base) (is_some (username_of base))) c.segments-segments.ensures.value
    ∙ sym (placed_base c.args.base.now.parts reference c.scheme-2.result none bare c.scheme-2.ensures)
