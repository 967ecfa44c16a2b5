-- Links that lead to URIs, one for each.
use Rattle.std.proofs.Common.{◌≡◌, ◌<◌, ℕ, suc, ◌+◌, List, [], ◌∷◌, ◌++◌, Some, None, Ok, Err, inl, inr, length, take, get_or, refl, sym, ap, subst, ◌∙◌, arith}
use Rattle.std.specs.Prelude.{◌⊎◌, IfErr, IfOk, Result}
use Rattle.std.proofs.Math.Seq.{take-suc}
use Rattle.uriparse.specs.Readings.{IsUnless}
use Rattle.uriparse.specs.PathError.TheVariants.{ExceededMaximumLength, OutOfMemory}
use Rattle.uriparse.specs.URIReferenceError.{URIReferenceError}
use Rattle.uriparse.specs.URIReferenceError.TheVariants as references
use Rattle.uriparse.specs.Reference.{Parts, Spells}
use Rattle.uriparse.specs.Target.{target}
use Rattle.uriparse.specs.Uri.{map_error}
use Rattle.uriparse.specs.declared.uri.error.URIError.{URIError}
use Rattle.uriparse.specs.declared.uri.error.URIError.TheVariants as uris
use Rattle.examples.proofs.RedirectLemmas.{resolved, unresolved}
use Rattle.uriparse.specs.Escaped.{escaped}
use Rattle.uriparse.specs.Link.{link}
use Rattle.uriparse.specs.Reading.{fault}
use Rattle.examples.specs.Links.{AreLinks, GainsLink, IsRejected, LinksTo, Reaches, Resolves}

links_append : (base : Parts) (us ls : List Parts) (u l : Parts) → AreLinks base us ls → LinksTo base u l → AreLinks base (us ++ u ∷ []) (ls ++ l ∷ [])
links_append base [] [] u l h k = (k, tt)
links_append base [] (y ∷ ls) u l h k = absurd h
links_append base (x ∷ us) [] u l h k = absurd h
links_append base (x ∷ us) (y ∷ ls) u l (e, h) k = (e, links_append base us ls u l h k)

-- one more link leads to the next URI
pub links_more : (base : Parts) (us old new : List Parts) (i : ℕ) (u : Parts) → i < length us → u ≡ get_or us i u
    → AreLinks base (take i us) old → GainsLink base u old new → AreLinks base (take (i + 1) us) new
links_more base us old new i u lt is h (l, k, e) =
    let next : i + 1 ≡ suc i = omega arith in
    let front : take (i + 1) us ≡ take i us ++ u ∷ [] =
    ap (λ j. take j us) next ∙ take-suc us i u lt ∙ ap (λ v. take i us ++ v ∷ []) (sym is) in
    subst (λ xs. AreLinks base xs new) (sym front) (subst (λ ys. AreLinks base (take i us ++ u ∷ []) ys) (sym e) (links_append base (take i us) old u l h k))

-- ---- a link that leads somewhere

module _ (base r reference u : Parts) where
  same_target : IsUnless (references.Path OutOfMemory) (Ok reference) (Ok r) → target base r ≡ Some u → target base reference ≡ Some u
  same_target (inl k) is = let same : reference ≡ r = cc in ap (target base) same ∙ is
  same_target (inr k) is = absurd (cc)

  -- the target that was found is the link's
  pub one_target : (v : Parts) → IsUnless (references.Path OutOfMemory) (Ok reference) (Ok r) → target base r ≡ Some u → target base reference ≡ Some v → v ≡ u
  one_target v read is found =
      let both : Some v ≡ Some u = sym found ∙ same_target read is in
      cc

  -- it is not found only if memory runs out
  pub untargeted_link : (e : URIError) → IsUnless (references.Path OutOfMemory) (Ok reference) (Ok r) → target base r ≡ Some u
      → Resolves (target base reference) (Err e) → ◌≡◌ {A = Result Parts URIError} (Err e) (Err (uris.Path OutOfMemory))
  untargeted_link e read is h = by_answer (unresolved (target base reference) e h)
    where
      by_answer : ((target base reference ≡ None) × (e ≡ uris.Path ExceededMaximumLength)) ⊎ (e ≡ uris.Path OutOfMemory)
          → ◌≡◌ {A = Result Parts URIError} (Err e) (Err (uris.Path OutOfMemory))
      by_answer (inl none) = let bad : None ≡ Some u = sym none.0 ∙ same_target read is in absurd (cc)
      by_answer (inr memory) = ap Err memory

-- a link that spells a reference is not read only if memory runs out
pub unread_link : (e : URIReferenceError) (p : Parts) → IsUnless (references.Path OutOfMemory) (Err e) (Ok p)
    → ◌≡◌ {A = Result Parts URIError} (Err (map_error e)) (Err (uris.Path OutOfMemory))
unread_link e p (inl h) = absurd (cc)
unread_link e p (inr h) = let same : e ≡ references.Path OutOfMemory = cc in ap (λ x. Err (map_error x)) same

module _ (base r : Parts) (written : List ℕ) (answer : Result Parts URIError) (resolves : Resolves (target base r) answer) where
  -- what is returned is where the link leads
  pub reached : Spells (escaped (link written)) r → IfOk answer (λ u. Reaches base written u)
  reached s = by_answer answer resolves
    where
      by_answer : (a : Result Parts URIError) → Resolves (target base r) a → IfOk a (λ u. Reaches base written u)
      by_answer (Ok u) h = (r, s, resolved (target base r) u h)
      by_answer (Err e) h = tt

  -- a link that leads somewhere is followed, unless memory runs out
  pub only : ((p : Parts) → Spells (escaped (link written)) p → IsUnless (references.Path OutOfMemory) (Ok r) (Ok p))
      → (u : Parts) → Reaches base written u → IsUnless (uris.Path OutOfMemory) answer (Ok u)
  only reads u g = by_answer answer resolves
    where
      by_answer : (a : Result Parts URIError) → Resolves (target base r) a → IsUnless (uris.Path OutOfMemory) a (Ok u)
      by_answer (Ok v) h = inl (ap Ok (one_target base g.0 r u v (reads g.0 g.1) g.2 (resolved (target base r) v h)))
      by_answer (Err e) h = inr (untargeted_link base g.0 r u e (reads g.0 g.1) g.2 h)

  -- it is rejected if it has no target
  pub rejected : Spells (escaped (link written)) r → IfErr answer (λ e. IsRejected base written e)
  rejected s = by_answer answer resolves
    where
      by_reason : (e : URIError) → ((target base r ≡ None) × (e ≡ uris.Path ExceededMaximumLength)) ⊎ (e ≡ uris.Path OutOfMemory)
          → IsRejected base written e
      by_reason e (inl none) = inr (inl (r, s, none.0, none.1))
      by_reason e (inr memory) = inr (inr memory)

      by_answer : (a : Result Parts URIError) → Resolves (target base r) a → IfErr a (λ e. IsRejected base written e)
      by_answer (Ok u) h = tt
      by_answer (Err e) h = by_reason e (unresolved (target base r) e h)

-- it is rejected if its text has a fault
pub rejected_text : (base : Parts) (written text : List ℕ) (e : URIReferenceError) → text ≡ escaped (link written)
    → (fault text ≡ Some e) ⊎ (e ≡ references.Path OutOfMemory) → IsRejected base written (map_error e)
rejected_text base written text e reads (inl is) = inl (e, sym (ap fault reads) ∙ is, refl)
rejected_text base written text e reads (inr memory) = inr (inr (ap map_error memory))

-- a link that leads somewhere is rejected only if memory runs out
pub unreached : (e : URIError) (u : Parts) → IsUnless (uris.Path OutOfMemory) (Err e) (Ok u) → e ≡ uris.Path OutOfMemory
unreached e u (inl h) = absurd (cc)
unreached e u (inr h) = cc
