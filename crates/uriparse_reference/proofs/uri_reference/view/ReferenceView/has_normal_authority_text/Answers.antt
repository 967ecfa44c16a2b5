use Rattle.std.proofs.Common.{◌∙◌, ap, refl, sym, subst}
use Rattle.uriparse_authority.specs.Authority as authority
use Rattle.uriparse_reference.specs.Reference.{Spells}
use Rattle.uriparse_reference.specs.View.{Viewed}
use Rattle.uriparse_reference.proofs.lemmas.writing.SameTextLemmas.{authority_read, no_authority, tested_authority}
use Rattle.uriparse_reference.proofs.uri_reference.view.ReferenceView.has_normal_authority_text.Goals as goal

pub is_normal_text-requires : goal.is_normal_text-requires
is_normal_text-requires c =
    let spelled = c.assert_valid.ensures.spelled in
    subst (λ t. authority.Spells t c.in-Some.found) (sym c.authority_bytes.ensures)
    (authority_read c.args.self.now.text c.args.self.now.parts c.in-Some.found spelled (sym (ap (λ (v : Viewed). v.parts.authority) c.self.view_is) ∙ c.in-Some.is))

pub returns-in-Some : goal.returns-in-Some
returns-in-Some c =
    let spelled = c.assert_valid.ensures.spelled in
    tested_authority c.args.self.now.text c.args.self.now.parts c.in-Some.found c.is_normal_text.result spelled
    (sym (ap (λ (v : Viewed). v.parts.authority) c.self.view_is) ∙ c.in-Some.is)
    ((λ h. c.is_normal_text.ensures.0 h ∙ c.authority_bytes.ensures), (λ e. c.is_normal_text.ensures.1 (e ∙ sym c.authority_bytes.ensures)))

pub returns-in-None : goal.returns-in-None
returns-in-None c =
    let spelled = c.assert_valid.ensures.spelled in
    let same = no_authority c.args.self.now.text c.args.self.now.parts spelled (sym (ap (λ (v : Viewed). v.parts.authority) c.self.view_is) ∙ c.in-None.is) in
    ((λ _. same), (λ _. refl))
