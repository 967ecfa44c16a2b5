use Rattle.std.proofs.Common.{◌∙◌, ap, refl, sym}
use Rattle.std.specs.Option.{option_map}
use Rattle.uriparse_scheme.specs.Scheme.{named}
use Rattle.uriparse_reference.specs.Cuts.{scheme_text}
use Rattle.uriparse_reference.specs.View.{Viewed}
use Rattle.uriparse_reference.proofs.lemmas.writing.SameTextLemmas.{no_scheme, tested_scheme}
use Rattle.uriparse_reference.proofs.uri_reference.view.ReferenceView.has_own_scheme_text.Goals as goal

pub returns-in-Some : goal.returns-in-Some
returns-in-Some c =
    tested_scheme c.self.inside.pieces.scheme.now (scheme_text c.args.self.now.text) c.args.self.now.parts.scheme c.in-Some.scheme c.as_bytes.result.now c.eq.result
    (c.self.invariant.is_scheme ∙ ap (λ (v : Viewed). scheme_text v.text) c.self.view_is)
    (sym (ap (λ (v : Viewed). v.parts.scheme) c.self.view_is) ∙ ap (λ (v : Viewed). option_map named (scheme_text v.text)) c.self.view_is)
    (sym c.scheme.ensures ∙ c.in-Some.is) (c.as_bytes.ensures.value ∙ c.as_str.ensures.value) c.eq.ensures

pub returns-in-None : goal.returns-in-None
returns-in-None c =
    let same = no_scheme (scheme_text c.args.self.now.text) c.args.self.now.parts.scheme
    (sym (ap (λ (v : Viewed). v.parts.scheme) c.self.view_is) ∙ ap (λ (v : Viewed). option_map named (scheme_text v.text)) c.self.view_is)
    (sym c.scheme.ensures ∙ c.in-None.is) in
    ((λ _. same), (λ _. refl))
