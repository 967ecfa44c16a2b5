use Rattle.std.proofs.Common.{sym, ◌∙◌}
use Rattle.uriparse_reference.proofs.lemmas.reading.SpellingLemmas.{valid}
use Rattle.uriparse.proofs.lemmas.WithinLemmas.{place_along, shown_text, within_texts}
use Rattle.uriparse.proofs.uri.within.is_view_within.Goals as goal

pub returns : goal.returns
returns c =
    let place = place_along _ c.args.view.now.parts.scheme _ c.args.base.now.parts.scheme _ c.args.view.now.parts.authority _ c.args.base.now.parts.authority
    (sym c.requires.scheme) (sym c.requires.base_scheme) (c.as_ref.ensures.value ∙ c.authority.ensures)
    (c.as_ref-2.ensures.value ∙ c.authority-2.ensures) (c.is_same_place.ensures.0 c.if-not-is_same_place.false) in
    within_texts c.args.view.now.parts c.args.base.now.parts c.as_bytes.result.now c.as_bytes-2.result.now c.is_text_within.result
    (valid _ _ c.as_str-text.ensures.spelled) (valid _ _ c.as_str-base_text.ensures.spelled) (c.as_bytes.ensures.value ∙ c.path.ensures.text)
    (c.as_bytes-2.ensures.value ∙ c.path-2.ensures.text) place c.is_text_within.ensures
