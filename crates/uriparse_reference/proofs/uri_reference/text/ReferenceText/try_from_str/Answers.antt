use Rattle.std.proofs.Common.{◌≡◌, Ok, sym, subst, rules}
use Rattle.uriparse_text.specs.Readings.{IsUnless}
use Rattle.uriparse_text.specs.declared.segment.error.PathError.TheVariants.{OutOfMemory}
use Rattle.uriparse_reference.specs.declared.uri_reference.error.URIReferenceError.TheVariants as errors
use Rattle.uriparse_reference.specs.Reference.{Spells}
use Rattle.uriparse_reference.proofs.uri_reference.text.ReferenceText.try_from_str.Goals as goal

pub returns-clause-only : goal.returns-clause-only
returns-clause-only c = λ p s.
    let same : c.as_bytes.result.now ≡ c.args.text.now = search rules in
    subst (λ t. IsUnless (errors.Path OutOfMemory) c.try_from_bytes.result (Ok (record { text = t; parts = p }))) same
    (c.try_from_bytes.ensures.only p (subst (λ t. Spells t p) (sym same) s))
