-- What the results of reading and resolving mean for a redirect.
use Rattle.std.proofs.Common.{◌≡◌, ℕ, List, Option, Some, None, Ok, Err, inl, inr, refl, sym, ap, subst, ◌∙◌}
use Rattle.std.specs.Prelude.{◌⊎◌, Result, IfErr, IfOk}
use Rattle.uriparse.specs.Readings.{IsUnless}
use Rattle.uriparse.specs.PathError.TheVariants.{ExceededMaximumLength, OutOfMemory}
use Rattle.uriparse.specs.Authority.{AuthorityParts}
use Rattle.uriparse.specs.URIReferenceError.{URIReferenceError}
use Rattle.uriparse.specs.URIReferenceError.TheVariants as references
use Rattle.uriparse.specs.Reference.{Parts, Spells}
use Rattle.uriparse.specs.Target.{target}
use Rattle.uriparse.specs.declared.uri.error.URIError.{URIError}
use Rattle.uriparse.specs.declared.uri.error.URIError.TheVariants as uris
use Rattle.examples.specs.declared.redirects.RedirectError.{RedirectError}
use Rattle.examples.specs.declared.redirects.RedirectError.TheVariants as errors
use Rattle.examples.specs.Links.{Resolves}
use Rattle.examples.specs.Redirects.{GoesTo, IsOutOfMemory, IsUnlessWant, Follows, MayFollow, Refuses}

-- why there is no result
pub unresolved : (o : Option Parts) (e : URIError) → Resolves o (Err e)
    → ((o ≡ None) × (e ≡ uris.Path ExceededMaximumLength)) ⊎ (e ≡ uris.Path OutOfMemory)
unresolved None e h = inl (refl, cc)
unresolved (Some t) e (inl h) = absurd (cc)
unresolved (Some t) e (inr h) = inr (cc)

-- the result
pub resolved : (o : Option Parts) (t : Parts) → Resolves o (Ok t) → o ≡ Some t
resolved None t h = absurd (cc)
resolved (Some u) t (inl h) = let same : t ≡ u = cc in ap Some (sym same)
resolved (Some u) t (inr h) = absurd (cc)

-- what is rejected after the target, if there is one
pub untargeted : (o : Option Parts) (request : Parts) (a : AuthorityParts) (e : URIError) → Resolves o (Err e) → Follows o request a (Err (errors.Target e))
untargeted o request a e h = unresolved o e h

-- what is followed is where the Location leads to
pub followed : (request r : Parts) (location : List ℕ) (a : AuthorityParts) (answer : Result Parts RedirectError) → Spells location r
    → Follows (target request r) request a answer → IfOk answer (λ t. GoesTo request location t × MayFollow request a t)
followed request r location a (Ok t) s h = ((r, s, h.0), h.1)
followed request r location a (Err e) s h = tt

-- why a Location that was read is not followed
pub refused : (request r : Parts) (location : List ℕ) (a : AuthorityParts) (answer : Result Parts RedirectError) → Spells location r
    → Follows (target request r) request a answer → IfErr answer (λ e. Refuses request location a e)
refused request r location a (Ok t) s h = tt
refused request r location a (Err errors.Memory) s h = tt
refused request r location a (Err errors.Elsewhere) s h = (h.0, (r, s, h.1), h.2)
refused request r location a (Err errors.Scheme) s h = (h.0, (r, s, h.1), h.2)
refused request r location a (Err (errors.Target e)) s (inl h) = inl (r, s, h.0, h.1)
refused request r location a (Err (errors.Target e)) s (inr h) = inr h
refused request r location a (Err (errors.Location e)) s h = absurd h

-- an allowed target is returned
allowed_at : (o : Option Parts) (t request : Parts) (a : AuthorityParts) (answer : Result Parts RedirectError) → o ≡ Some t → MayFollow request a t
    → Follows o request a answer → IsUnlessWant answer t
allowed_at o t request a (Ok u) is may h = cc
allowed_at o t request a (Err errors.Memory) is may h = tt
allowed_at o t request a (Err errors.Elsewhere) is may h =
    let same : t ≡ h.0 = cc in
    absurd (h.2 (subst (MayFollow request a) same may).at)
allowed_at o t request a (Err errors.Scheme) is may h =
    let same : t ≡ h.0 = cc in
    absurd (h.2 (subst (MayFollow request a) same may).scheme)
allowed_at o t request a (Err (errors.Target e)) is may (inl h) = let none : o ≡ None = h.0 in absurd (cc)
allowed_at o t request a (Err (errors.Target e)) is may (inr h) = h
allowed_at o t request a (Err (errors.Location e)) is may h = absurd h

pub allowed : (request r : Parts) (location : List ℕ) (a : AuthorityParts) (answer : Result Parts RedirectError)
    → ((p : Parts) → Spells location p → IsUnless (references.Path OutOfMemory) (Ok r) (Ok p))
    → Follows (target request r) request a answer → (t : Parts) → GoesTo request location t → MayFollow request a t → IsUnlessWant answer t
allowed request r location a answer only h t g may = allowed_at (target request r) t request a answer (of_one (only g.0 g.1)) may h
  where
    of_one : IsUnless (references.Path OutOfMemory) (Ok r) (Ok g.0) → target request r ≡ Some t
    of_one (inl k) = let same : r ≡ g.0 = cc in ap (target request) same ∙ g.2
    of_one (inr k) = absurd (cc)

-- a Location that goes somewhere is rejected only if memory runs out
pub unread : (e : URIReferenceError) (p : Parts) → IsUnless (references.Path OutOfMemory) (Err e) (Ok p) → IsOutOfMemory (errors.Location e)
unread e p (inl h) = absurd (cc)
unread e p (inr h) = cc
