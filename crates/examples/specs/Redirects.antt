-- Where a redirect leads to, and whether that is allowed.
use Rattle.std.specs.Prelude.{◌≡◌, ◌⊎◌, ⊤, ℕ, List, Option, Some, None, Result, Ok, Err}
use Rattle.std.specs.Option.{IsSomeAnd}
use Rattle.uriparse.specs.PathError.TheVariants.{ExceededMaximumLength, OutOfMemory}
use Rattle.uriparse.specs.Authority as authority
use Rattle.uriparse.specs.Scheme as scheme
use Rattle.uriparse.specs.URIReferenceError.TheVariants as references
use Rattle.uriparse.specs.Reading.{fault}
use Rattle.uriparse.specs.Reference.{Parts, Spells}
use Rattle.uriparse.specs.Target.{target}
use Rattle.uriparse.specs.Uri.{IsNamed, https}
use Rattle.uriparse.specs.declared.uri.error.URIError.TheVariants as uris
use Rattle.examples.specs.declared.redirects.RedirectError.{RedirectError}
use Rattle.examples.specs.declared.redirects.RedirectError.TheVariants as errors

-- The text of a Location is a reference, and this is its target against the request's URI.
abbrev pub GoesTo : Parts → List ℕ → Parts → Type 0
GoesTo request location t = (r : Parts) × Spells location r × (target request r ≡ Some t)

-- It has an authority that equals the allowed one: they have one canonical text, and hosts of one kind.
abbrev pub IsAt : authority.AuthorityParts → Parts → Type 0
IsAt allowed t = IsSomeAnd t.authority (λ a. authority.key a ≡ authority.key allowed)

-- Its scheme is `https`, or that of the request. So a redirect never leads from `https` to `http`.
abbrev pub KeepsScheme : Parts → Parts → Type 0
KeepsScheme request t = IsSomeAnd t.scheme (λ s. IsNamed https s ⊎ IsSomeAnd request.scheme (λ r. scheme.canonical_text s ≡ scheme.canonical_text r))

-- where a redirect may lead
pub record MayFollow (request : Parts) (allowed : authority.AuthorityParts) (t : Parts) : Type 0 where
  pub at : IsAt allowed t
  pub scheme : KeepsScheme request t

-- Why a redirect is rejected: the Location is faulty, or has no target, or the target is not at the allowed authority, or has another
-- scheme; or memory ran out.
abbrev pub Refuses : Parts → List ℕ → authority.AuthorityParts → RedirectError → Type 0
Refuses request location allowed (errors.Location e) = (fault location ≡ Some e) ⊎ (e ≡ references.Path OutOfMemory)
Refuses request location allowed (errors.Target e) =
    ((r : Parts) × Spells location r × (target request r ≡ None) × (e ≡ uris.Path ExceededMaximumLength)) ⊎ (e ≡ uris.Path OutOfMemory)
Refuses request location allowed errors.Elsewhere = (t : Parts) × GoesTo request location t × (IsAt allowed t → ⊥)
Refuses request location allowed errors.Scheme = (t : Parts) × GoesTo request location t × (KeepsScheme request t → ⊥)
Refuses request location allowed errors.Memory = ⊤

-- memory ran out
abbrev pub IsOutOfMemory : RedirectError → Type 0
IsOutOfMemory errors.Memory = ⊤
IsOutOfMemory (errors.Location e) = e ≡ references.Path OutOfMemory
IsOutOfMemory (errors.Target e) = e ≡ uris.Path OutOfMemory
IsOutOfMemory errors.Elsewhere = ⊥
IsOutOfMemory errors.Scheme = ⊥

-- this target is returned, or memory runs out
abbrev pub IsUnlessWant : Result Parts RedirectError → Parts → Type 0
IsUnlessWant (Ok u) t = u ≡ t
IsUnlessWant (Err e) t = IsOutOfMemory e

-- After the target, if there is one: it is returned if a redirect may lead there. Else it is rejected.
abbrev pub Follows : Option Parts → Parts → authority.AuthorityParts → Result Parts RedirectError → Type 0
Follows o request allowed (Ok t) = (o ≡ Some t) × MayFollow request allowed t
Follows o request allowed (Err errors.Memory) = ⊤
Follows o request allowed (Err errors.Elsewhere) = (t : Parts) × (o ≡ Some t) × (IsAt allowed t → ⊥)
Follows o request allowed (Err errors.Scheme) = (t : Parts) × (o ≡ Some t) × (KeepsScheme request t → ⊥)
Follows o request allowed (Err (errors.Target e)) = ((o ≡ None) × (e ≡ uris.Path ExceededMaximumLength)) ⊎ (e ≡ uris.Path OutOfMemory)
Follows o request allowed (Err (errors.Location e)) = ⊥
