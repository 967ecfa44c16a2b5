use Rattle.std.proofs.Common.{◌≡◌, sym, ap, ◌∙◌, rules}
use Rattle.std.specs.Prelude.{string_bytes}
use Rattle.uriparse_reference.specs.Reading.{fault}
use Rattle.uriparse_reference.proofs.lemmas.reading.OwnedTextLemmas.{faultless, spelled_in}
use Rattle.uriparse_reference.specs.OwnedText.{IsReference}
use Rattle.uriparse_reference.proofs.uri_reference.text.ReferenceText.try_from_string.Goals as goal

pub returns-in-Ok-clause-found : goal.returns-in-Ok-clause-found
returns-in-Ok-clause-found c =
    let is : IsReference (string_bytes c.args.text) = search rules in
    spelled_in (string_bytes c.args.text) is

pub returns-in-Err-clause-only : goal.returns-in-Err-clause-only
returns-in-Err-clause-only c = λ p s.
    let same : c.as_bytes.result.now ≡ string_bytes c.args.text = search rules in
    faultless (string_bytes c.args.text) p s c.in-Err.error (ap fault (sym same) ∙ c.in-Err.ensures)
