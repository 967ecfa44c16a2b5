-- Schemes in canonical spelling.
use Rattle.std.proofs.Common.{◌≡◌, ℕ, true, List, refl, sym, ap, ◌∙◌}
use Rattle.std.specs.Str.{str_to_ascii_lowercase}
use Rattle.uriparse_text.specs.declared.internal.token.Case.TheVariants.{Lowered}
use Rattle.uriparse_text.specs.Canonical.{canonical_lowered}
use Rattle.uriparse_text.proofs.lemmas.canonical.CanonicalLemmas.{canonical_in-canonical_in}
use Rattle.uriparse_scheme.specs.declared.scheme.registered.RegisteredScheme.{RegisteredScheme}
use Rattle.uriparse_scheme.specs.declared.scheme.Scheme.{Scheme}
use Rattle.uriparse_scheme.specs.declared.scheme.Scheme.TheVariants.{Registered, Unregistered}
use Rattle.uriparse_scheme.specs.Registered.{registered_named}
use Rattle.uriparse_scheme.specs.Scheme.{is_scheme, IsUnregistered, Valid, text, canonical_text}
use Rattle.uriparse_scheme.specs.Normal.{canonical_scheme}
use Rattle.uriparse_scheme.proofs.lemmas.schemes.GrammarLemmas.{well_formed-scheme, canonical_low_of_scheme, is_scheme-canonical_lowered}
use Rattle.uriparse_scheme.proofs.lemmas.table.TableLemmas.{canonical_name}

pub text-canonical : (s : Scheme) → text (canonical_scheme s) ≡ canonical_text s
text-canonical (Registered s) = sym (canonical_name s)
text-canonical (Unregistered t) = refl

-- an unregistered scheme in lower case is one
pub unregistered-canonical_lowered : (t : List ℕ) → IsUnregistered t → IsUnregistered (canonical_lowered t)
unregistered-canonical_lowered t v =
    let is : is_scheme (canonical_lowered t) ≡ true = is_scheme-canonical_lowered t v.scheme in
    let low : str_to_ascii_lowercase (canonical_lowered t) ≡ str_to_ascii_lowercase t =
    sym (canonical_low_of_scheme (canonical_lowered t) is) ∙ canonical_in-canonical_in Lowered t (well_formed-scheme t v.scheme)
    ∙ canonical_low_of_scheme t v.scheme in
    record { scheme = is; nameless = ap registered_named low ∙ v.nameless }

-- a registered scheme's text is its canonical spelling
pub registered_is_normal : (s : Scheme) (r : RegisteredScheme) → s ≡ Registered r → canonical_text s ≡ text s
registered_is_normal s r e = ap canonical_text e ∙ canonical_name r ∙ ap text (sym e)

pub valid_canonical : (s : Scheme) → Valid s → Valid (canonical_scheme s)
valid_canonical (Registered s) v = v
valid_canonical (Unregistered t) v = unregistered-canonical_lowered t v

pub canonical_twice : (s : Scheme) → Valid s → canonical_scheme (canonical_scheme s) ≡ canonical_scheme s
canonical_twice (Registered s) v = refl
canonical_twice (Unregistered t) v = ap Unregistered (canonical_in-canonical_in Lowered t (well_formed-scheme t v.scheme))

-- a scheme with the text of its normal form is in normal form
pub canonical_kept : (s : Scheme) → text (canonical_scheme s) ≡ text s → canonical_scheme s ≡ s
canonical_kept (Registered s) e = refl
canonical_kept (Unregistered t) e = ap Unregistered e
