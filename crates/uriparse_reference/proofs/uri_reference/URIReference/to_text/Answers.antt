use Rattle.std.proofs.Common.{◌≡◌, sym, ap, subst, ◌∙◌, rules}
use Rattle.std.specs.Prelude.{string_bytes}
use Rattle.uriparse_reference.specs.OwnedText.{IsReference, parts_in}
use Rattle.uriparse_reference.specs.Reference.{print}
use Rattle.uriparse_reference.specs.View.{Viewed}
use Rattle.uriparse_reference.proofs.lemmas.reading.OwnedTextLemmas.{stands}
use Rattle.uriparse_reference.proofs.lemmas.reading.ReadBackLemmas.{printed_stands}
use Rattle.uriparse_reference.proofs.lemmas.reading.SpellingLemmas.{back}
use Rattle.uriparse_reference.proofs.uri_reference.URIReference.to_text.Goals as goal

pub checked_text-requires : goal.checked_text-requires
checked_text-requires c =
    let same : string_bytes c.in_ok-to_string.field-0 ≡ print c.args.self.now = search rules in
    subst IsReference (sym same) (printed_stands c.args.self.now c.path-path.ensures.valid)

pub returns-clause-parts : goal.returns-clause-parts
returns-clause-parts c = λ reads.
    let p = c.args.self.now in
    let same : string_bytes c.in_ok-to_string.field-0 ≡ print p = search rules in
    ap (λ (v : Viewed). v.parts) c.checked_text.ensures ∙ ap parts_in same ∙ (stands (print p) p (back p c.path-path.ensures.valid reads)).1
