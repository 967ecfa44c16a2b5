-- What reading a text returns, by what it spells.
use Rattle.std.proofs.Common.{◌≡◌, ℕ, Bool, List, Option, Some, None, Ok, Err, refl, sym, ap, subst, ◌∙◌}
use Rattle.std.specs.Option.{option_map}
use Rattle.std.specs.Prelude.{◌↔◌, IsTrue, true, false, is_some}
use Rattle.uriparse_text.specs.Readings.{fault_in, IfPresent}
use Rattle.uriparse_scheme.specs.Scheme as scheme
use Rattle.uriparse_reference.specs.declared.uri_reference.error.URIReferenceError.{URIReferenceError}
use Rattle.uriparse_reference.specs.Reference.{Parts, Spells}
use Rattle.uriparse_reference.specs.Reading.{reading, fault}
use Rattle.uriparse_reference.specs.Offset.{fault_offset, first_fault}
use Rattle.uriparse_reference.specs.Cuts.{scheme_text, authority_text, path_text, query_text, fragment_text}
use Rattle.uriparse_reference.proofs.lemmas.reading.CutLemmas.{IsCutInto, cut_again}
use Rattle.uriparse_reference.proofs.lemmas.reading.ReadingLemmas.{again, found, spelled_pieces}
use Rattle.uriparse_ffi.specs.Places.{ArePlaces}
use Rattle.uriparse_ffi.specs.declared.places.UriParts.{UriParts}

pub cut_of : (t : List ℕ) (p : Parts) (s : Spells t p) → IsCutInto t s.scheme_text s.authority_text s.path_text p.query p.fragment
cut_of t p s = cut_again t s.scheme_text s.authority_text s.path_text p.query p.fragment (spelled_pieces t p s) s.whole

pub query_of : (t : List ℕ) (p : Parts) → reading t ≡ Ok p → query_text t ≡ p.query
query_of t p is = (cut_of t p (found t p is)).query

pub fragment_of : (t : List ℕ) (p : Parts) → reading t ≡ Ok p → fragment_text t ≡ p.fragment
fragment_of t p is = (cut_of t p (found t p is)).fragment

pub places_of : (t : List ℕ) (p : Parts) (s : Spells t p) (o : UriParts)
    → ArePlaces (scheme_text t) (authority_text t) (path_text t) (query_text t) (fragment_text t) o
    → ArePlaces s.scheme_text s.authority_text s.path_text p.query p.fragment o
places_of t p s o h =
    let cut = cut_of t p s in
    let h1 = subst (λ x. ArePlaces x (authority_text t) (path_text t) (query_text t) (fragment_text t) o) cut.scheme h in
    let h2 = subst (λ x. ArePlaces s.scheme_text x (path_text t) (query_text t) (fragment_text t) o) cut.authority h1 in
    let h3 = subst (λ x. ArePlaces s.scheme_text s.authority_text x (query_text t) (fragment_text t) o) cut.path h2 in
    let h4 = subst (λ x. ArePlaces s.scheme_text s.authority_text s.path_text x (fragment_text t) o) cut.query h3 in
    subst (λ x. ArePlaces s.scheme_text s.authority_text s.path_text p.query x o) cut.fragment h4

-- what is spelled is what was read
pub read_one : (t : List ℕ) (p q : Parts) → Spells t p → reading t ≡ Ok q → q ≡ p
read_one t p q s is = let e = again t p s in cc

-- a text that spells a reference has no fault
pub no_fault : (t : List ℕ) (p : Parts) (e : URIReferenceError) → Spells t p → fault t ≡ Some e → ⊥
no_fault t p e s h =
    let none : fault t ≡ None = ap fault_in (again t p s) in
    absurd (cc)

pub no_first_fault : (t : List ℕ) (p : Parts) (f : ℕ × URIReferenceError) → Spells t p → first_fault t ≡ Some f → ⊥
no_first_fault t p f s h =
    let none : first_fault t ≡ None = ap (λ o. option_map (λ e. (fault_offset e t, e)) (fault_in o)) (again t p s) in
    absurd (cc)

pub no_fault_read : (t : List ℕ) (p : Parts) (e : URIReferenceError) → reading t ≡ Ok p → fault t ≡ Some e → ⊥
no_fault_read t p e is h =
    let none : fault t ≡ None = ap fault_in is in
    absurd (cc)

pub one_fault : (t : List ℕ) (e x : URIReferenceError) → fault t ≡ Some e → reading t ≡ Err x → x ≡ e
one_fault t e x h is =
    let k : fault t ≡ Some x = ap fault_in is in
    cc

present_some : {A : Type 0} (P : List ℕ → A → Type 0) (o : Option (List ℕ)) (x : Option A) → IfPresent P o x → is_some o ≡ is_some x
present_some P None None h = refl
present_some P None (Some x) h = absurd h
present_some P (Some t) None h = absurd h
present_some P (Some t) (Some x) h = refl

-- a text has a scheme if what it spells has one
scheme_of : (t : List ℕ) (p : Parts) → Spells t p → is_some (scheme_text t) ≡ is_some p.scheme
scheme_of t p s = ap is_some (cut_of t p s).scheme ∙ present_some scheme.Spells s.scheme_text p.scheme s.is_scheme

pub is_uri : (t : List ℕ) (p : Parts) (has : Bool) → reading t ≡ Ok p → has ≡ is_some (scheme_text t)
    → IsTrue has ↔ ((q : Parts) × Spells t q × (is_some q.scheme ≡ true))
is_uri t p has is some =
    let s = found t p is in
    let e = some ∙ scheme_of t p s in
    (λ h. (p, s, sym e ∙ h), λ w. some ∙ scheme_of t w.0 w.1 ∙ w.2)

pub is_no_uri : (t : List ℕ) (e : URIReferenceError) → reading t ≡ Err e → IsTrue false ↔ ((q : Parts) × Spells t q × (is_some q.scheme ≡ true))
is_no_uri t e is = (λ k. absurd (cc), λ w. absurd (no_fault t w.0 e w.1 (ap fault_in is)))
