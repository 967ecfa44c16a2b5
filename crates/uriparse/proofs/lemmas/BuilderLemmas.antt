-- What follows from a builder's reference for the components that were given.
use Rattle.std.proofs.Common.{◌≡◌, Option, Some, None, Ok, ap}
use Rattle.std.specs.Prelude.{Result, is_some}
use Rattle.uriparse_text.specs.Readings.{unless_fault}
use Rattle.uriparse_path.specs.Path.{PathParts}
use Rattle.uriparse_reference.specs.declared.uri_reference.error.URIReferenceError.{URIReferenceError}
use Rattle.uriparse_reference.specs.Reference.{Parts}
use Rattle.uriparse_reference.specs.Builder.{Held, built_with}

-- what is built is what was to be built, if no rule rejects it
made : (o : Option URIReferenceError) (p q : Parts) → ◌≡◌ {A = Result Parts URIReferenceError} (Ok p) (unless_fault o q) → p ≡ q
made None p q e = cc
made (Some x) p q e = absurd (cc)

-- the reference has a scheme where the builder holds one
pub built_scheme : (h : Held) (o : Option PathParts) (p : Parts) → ◌≡◌ {A = Result Parts URIReferenceError} (Ok p) (built_with h o) → is_some p.scheme ≡ is_some h.scheme
built_scheme h None p e = absurd (cc)
built_scheme h (Some path) p e = ap (λ (r : Parts). is_some r.scheme) (made _ p _ e)
