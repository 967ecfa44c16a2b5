-- What is accepted as the target of a proxy.
use Rattle.std.proofs.Common.{◌≡◌, true, false, Option, Some, None, Ok, Err, inl, inr, refl, sym, ap, subst, ◌∙◌}
use Rattle.std.specs.Prelude.{Result, MatchResult, is_some}
use Rattle.std.specs.Option.{IsSomeAnd}
use Rattle.uriparse.specs.Readings.{IsUnless}
use Rattle.uriparse.specs.PathError.TheVariants.{OutOfMemory}
use Rattle.uriparse.specs.Reference.{Parts}
use Rattle.uriparse.specs.declared.uri.error.URIError.{URIError}
use Rattle.uriparse.specs.declared.uri.error.URIError.TheVariants as uris
use Rattle.examples.specs.declared.proxy.ProxyError.{ProxyError}
use Rattle.examples.specs.declared.proxy.ProxyError.TheVariants as errors
use Rattle.examples.specs.Proxy.{IsProxyTarget, IsReason, IsWebScheme}

some_and : {A : Type 0} (P : A → Type 0) (o : Option A) → IsSomeAnd o P → is_some o ≡ true
some_and P None h = absurd h
some_and P (Some x) h = refl

-- a target has a scheme
pub has_scheme : (u : Parts) → IsProxyTarget u → is_some u.scheme ≡ true
has_scheme u p = some_and IsWebScheme u.scheme p.web

-- there is no reason against a target
no_reason : (u : Parts) → IsProxyTarget u → (e : ProxyError) → IsReason u e → ⊥
no_reason u p (errors.Text e) h = h
no_reason u p errors.Fragment h =
    let e : false ≡ true = sym (ap is_some p.no_fragment) ∙ h in
    absurd (cc)
no_reason u p errors.Scheme h = h p.web
no_reason u p errors.Host h = h p.host

-- the target that a text spells is accepted
pub accepted : (answer : Result Parts ProxyError) (uri u : Parts)
    → MatchResult answer (λ v. (v ≡ uri) × IsProxyTarget uri) (λ e. IsReason uri e)
    → IsUnless (uris.Path OutOfMemory) (Ok uri) (Ok u) → IsProxyTarget u → IsUnless (errors.Text (uris.Path OutOfMemory)) answer (Ok u)
accepted (Ok v) uri u h (inl k) p =
    let same : uri ≡ u = cc in
    inl (ap Ok (h.0 ∙ same))
accepted (Err e) uri u h (inl k) p =
    let same : uri ≡ u = cc in
    absurd (no_reason u p e (subst (λ q. IsReason q e) same h))
accepted answer uri u h (inr k) p = absurd (cc)

-- or there is no memory to read it
pub unread : (e : URIError) (u : Parts) → IsUnless (uris.Path OutOfMemory) (Err e) (Ok u)
    → IsUnless (errors.Text (uris.Path OutOfMemory)) (Err (errors.Text e)) (Ok u)
unread e u (inl h) = absurd (cc)
unread e u (inr h) =
    let same : e ≡ uris.Path OutOfMemory = cc in
    inr (ap (λ x. Err (errors.Text x)) same)
