use Rattle.std.proofs.Common.{◌≡◌, ◌∷◌, ◌||◌, ◌==◌, ◌∙◌, Some, false, ap, sym, rules}
use Rattle.uriparse_text.specs.declared.internal.class.Class.TheVariants.{Query}
use Rattle.uriparse_text.specs.Bytes.{number_sign}
use Rattle.uriparse_text.specs.Classes.{is_plain}
use Rattle.uriparse_text.specs.Segment as segment
use Rattle.uriparse_text.specs.Tokens.{is_escape}
use Rattle.uriparse_reference.specs.declared.uri_reference.error.URIReferenceError.TheVariants as errors
use Rattle.uriparse_reference.specs.Offset.{first_fault}
use Rattle.uriparse_reference.proofs.lemmas.reading.FrontFaultLemmas.{front_first}
use Rattle.uriparse_reference.proofs.uri_reference.offset.first_byte_fault.Goals as goal

pub returns-in-false-clause-offset : goal.returns-in-false-clause-offset
returns-in-false-clause-offset c =
    let b = c.in_ok-b.b.now in
    let after = c.in_ok-b.after.now in
    let is : c.args.text.now ≡ b ∷ after = search rules in
    let wrong : (is_plain Query b || (b == number_sign || is_escape b after)) ≡ false = search rules in
    let told : c.error_of.result ≡ segment.error_of b = search rules in
    ap first_fault is ∙ front_first b after wrong ∙ ap (λ e. Some (0, errors.Path e)) (sym told)
