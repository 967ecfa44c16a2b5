use Rattle.std.proofs.Common.{◌≡◌, sym, ap, subst, ◌∙◌, rules}
use Rattle.std.specs.Prelude.{IfSome, string_bytes}
use Rattle.uriparse_reference.specs.OwnedText.{AreOffsets, IsReference, viewed_in}
use Rattle.uriparse_reference.proofs.lemmas.reading.OwnedTextLemmas.{stands, viewed_stands}
use Rattle.uriparse_reference.proofs.uri_reference.view.ReferenceView.to_text.Goals as goal

pub invariant_of-result : goal.invariant_of-result
invariant_of-result c =
    let view = c.args.self.now in
    let same : string_bytes c.in_ok-from_str.field-0 ≡ view.text = search rules in
    let is = stands view.text view.parts c.as_str.ensures.spelled in
    (subst IsReference (sym same) is.0, subst (λ t. IfSome c.offsets.result (λ n. AreOffsets t n)) (sym same) c.offsets.ensures)

pub returns : goal.returns
returns c =
    let view = c.args.self.now in
    let same : string_bytes c.in_ok-from_str.field-0 ≡ view.text = search rules in
    ap viewed_in same ∙ viewed_stands view.text view.parts c.as_str.ensures.spelled
