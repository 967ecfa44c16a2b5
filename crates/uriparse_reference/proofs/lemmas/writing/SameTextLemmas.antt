-- The text that a reference was read from, the text that it prints, and that of its normal form.
use Rattle.std.proofs.Common.{◌≡◌, ◌↔◌, ℕ, Bool, true, false, cond, List, [], ◌∷◌, length, Option, Some, None, bytes_eq, refl, sym, ap, subst, ◌∙◌, ◌&&◌}
use Rattle.std.proofs.lemmas.Bool.{false≢true, and_parts, eqb-true}
use Rattle.std.proofs.lemmas.Slice.Eq.{bytes_eq-Decides}
use Rattle.uriparse_text.specs.Bytes.{slash}
use Rattle.uriparse_text.specs.Canonical.{canonical}
use Rattle.std.specs.Prelude.{◌==◌, IfSome, IsTrue, is_some, not, unwrap_or}
use Rattle.std.specs.Option.{option_eq, option_map}
use Rattle.uriparse_text.specs.Readings.{IfPresent}
use Rattle.uriparse_path.specs.Path.{PathParts, text}
use Rattle.uriparse_path.specs.Normal as paths
use Rattle.uriparse_authority.specs.Authority as authority
use Rattle.uriparse_authority.specs.Authority.{AuthorityParts}
use Rattle.uriparse_authority.specs.Normal.{canonical_authority}
use Rattle.uriparse_authority.proofs.lemmas.authorities.SameTextLemmas.{canonical_read}
use Rattle.uriparse_scheme.specs.declared.scheme.Scheme.{Scheme}
use Rattle.uriparse_scheme.specs.declared.scheme.Scheme.TheVariants.{Registered, Unregistered}
use Rattle.uriparse_scheme.specs.declared.scheme.registered.RegisteredScheme.{RegisteredScheme}
use Rattle.uriparse_scheme.specs.Registered.{registered_named}
use Rattle.uriparse_scheme.specs.Scheme as scheme
use Rattle.uriparse_scheme.specs.Normal.{canonical_scheme}
use Rattle.std.specs.Str.{str_to_ascii_lowercase}
use Rattle.uriparse_reference.specs.Cuts.{authority_text, if_some, path_text, scheme_text}
use Rattle.uriparse_reference.specs.Reference.{Parts, Spells, authority_part, joined, print, scheme_part}
use Rattle.uriparse_reference.specs.Normal.{HasOwnTexts, is_normal, is_normal_outside, normal, context}
use Rattle.uriparse_reference.proofs.lemmas.equality.CanonicalComponentLemmas.{authority-print, same_texts}
use Rattle.uriparse_reference.proofs.lemmas.equality.EqualityLemmas.{print_cut}
use Rattle.uriparse_reference.proofs.lemmas.normalizing.NormalizingLemmas.{normal_exactly}
use Rattle.uriparse_reference.proofs.lemmas.normalizing.NormalFormLemmas.{normal_valid}
use Rattle.uriparse_reference.proofs.lemmas.reading.CutLemmas.{IsCutInto, cut_again}
use Rattle.uriparse_reference.proofs.lemmas.reading.ReadingLemmas.{spelled_pieces}
use Rattle.uriparse_reference.proofs.lemmas.reading.SpellingLemmas.{authority_valid, valid}
use Rattle.uriparse_reference.proofs.lemmas.reading.ViewLemmas.{not_empty, text-path_of}

-- ---- a text, cut into its components

cut_of : (t : List ℕ) (p : Parts) (s : Spells t p) → IsCutInto t s.scheme_text s.authority_text s.path_text p.query p.fragment
cut_of t p s = cut_again t s.scheme_text s.authority_text s.path_text p.query p.fragment (spelled_pieces t p s) s.whole

scheme_there : (t : List ℕ) (p : Parts) (s : Spells t p) → IfPresent scheme.Spells (scheme_text t) p.scheme
scheme_there t p s = subst (λ o. IfPresent scheme.Spells o p.scheme) (sym (cut_of t p s).scheme) s.is_scheme

authority_there : (t : List ℕ) (p : Parts) (s : Spells t p) → IfPresent authority.Spells (authority_text t) p.authority
authority_there t p s = subst (λ o. IfPresent authority.Spells o p.authority) (sym (cut_of t p s).authority) s.is_authority

-- a reference prints the text if its scheme, authority and path print theirs
record ArePrinted (t : List ℕ) (p : Parts) : Type 0 where
  is_scheme : scheme_part p ≡ scheme_text t
  is_authority : authority_part p ≡ authority_text t
  is_path : text p.path ≡ path_text t

parts_printed : (t : List ℕ) (p : Parts) → Spells t p → print p ≡ t → ArePrinted t p
parts_printed t p s e =
    let cut = print_cut p (valid t p s) in
    record {
      is_scheme = sym cut.scheme ∙ ap scheme_text e;
      is_authority = sym cut.authority ∙ ap authority_text e;
      is_path = sym cut.path ∙ ap path_text e;
    }

whole_printed : (t : List ℕ) (p : Parts) → Spells t p → ArePrinted t p → print p ≡ t
whole_printed t p s are =
    let cut = cut_of t p s in
    ap (λ o. joined o (authority_part p) (text p.path) p.query p.fragment) (are.is_scheme ∙ cut.scheme)
    ∙ ap (λ o. joined s.scheme_text o (text p.path) p.query p.fragment) (are.is_authority ∙ cut.authority)
    ∙ ap (λ u. joined s.scheme_text s.authority_text u p.query p.fragment) (are.is_path ∙ cut.path)
    ∙ sym s.whole

-- ---- tests of the components

pub tested_scheme : (x : List ℕ) (o : Option (List ℕ)) (p : Option Scheme) (s : Scheme) (y : List ℕ) (r : Bool) → if_some x ≡ o → p ≡ option_map scheme.named o
    → p ≡ Some s → y ≡ scheme.text s → r ≡ bytes_eq y x → IsTrue r ↔ (option_map scheme.text p ≡ o)
tested_scheme [] o p s y r e f g h k = absurd (cc)
tested_scheme (b ∷ x) o p s y r e f g h k =
    let test = bytes_eq-Decides y (b ∷ x) in (
      (λ i. ap (option_map scheme.text) g ∙ ap Some (sym h ∙ test.0 (sym k ∙ i)) ∙ e),
      (λ i. let same : scheme.text s ≡ b ∷ x = some_same (sym (ap (option_map scheme.text) g) ∙ i ∙ sym e) in k ∙ test.1 (h ∙ same)),
    )
  where
    some_same : {u v : List ℕ} → Some u ≡ Some v → u ≡ v
    some_same q = cc

pub no_scheme : (o : Option (List ℕ)) (p : Option Scheme) → p ≡ option_map scheme.named o → p ≡ None → option_map scheme.text p ≡ o
no_scheme None p f g = ap (option_map scheme.text) g
no_scheme (Some x) p f g = absurd (cc)

-- the text of the authority, if there is one
pub authority_read : (t : List ℕ) (p : Parts) (a : AuthorityParts) → Spells t p → p.authority ≡ Some a → authority.Spells (unwrap_or (authority_text t) []) a
authority_read t p a s e = by_text (authority_text t) p.authority (authority_there t p s) e
  where
    by_text : (o : Option (List ℕ)) (q : Option AuthorityParts) → IfPresent authority.Spells o q → q ≡ Some a → authority.Spells (unwrap_or o []) a
    by_text None None h f = absurd (cc)
    by_text None (Some b) h f = absurd h
    by_text (Some u) None h f = absurd h
    by_text (Some u) (Some b) h f = let same : b ≡ a = cc in subst (authority.Spells u) same h

abbrev normal_print : AuthorityParts → List ℕ
normal_print a = authority.print (canonical_authority a)

pub tested_authority : (t : List ℕ) (p : Parts) (a : AuthorityParts) (r : Bool) → Spells t p → p.authority ≡ Some a
    → IsTrue r ↔ (normal_print a ≡ unwrap_or (authority_text t) []) → IsTrue r ↔ (authority_part (normal p) ≡ authority_text t)
tested_authority t p a r s e test = by_text (authority_text t) p.authority (authority_there t p s) e test
  where
    by_text : (o : Option (List ℕ)) (q : Option AuthorityParts) → IfPresent authority.Spells o q → q ≡ Some a
        → IsTrue r ↔ (normal_print a ≡ unwrap_or o []) → IsTrue r ↔ (option_map authority.print (option_map canonical_authority q) ≡ o)
    by_text None None h f k = absurd (cc)
    by_text None (Some b) h f k = absurd h
    by_text (Some u) None h f k = absurd h
    by_text (Some u) (Some b) h f k =
        let same : b ≡ a = cc in
        ((λ i. ap Some (ap normal_print same ∙ k.0 i)), (λ i. let texts : normal_print b ≡ u = cc in k.1 (sym (ap normal_print same) ∙ texts)))

pub no_authority : (t : List ℕ) (p : Parts) → Spells t p → p.authority ≡ None → authority_part (normal p) ≡ authority_text t
no_authority t p s e = by_text (authority_text t) p.authority (authority_there t p s) e
  where
    by_text : (o : Option (List ℕ)) (q : Option AuthorityParts) → IfPresent authority.Spells o q → q ≡ None
        → option_map authority.print (option_map canonical_authority q) ≡ o
    by_text None None h f = refl
    by_text None (Some b) h f = absurd h
    by_text (Some u) None h f = absurd h
    by_text (Some u) (Some b) h f = absurd (cc)

pub own_path : (v a : Bool) (g u : List ℕ) → v ≡ ((length g == 0) && a) → u ≡ cond v (slash ∷ []) g → IsTrue (not v) ↔ (u ≡ g)
own_path true a [] u e f = ((λ i. absurd (false≢true i)), (λ i. let same : slash ∷ [] ≡ [] = sym f ∙ i in absurd (cc)))
own_path true a (b ∷ g) u e f = let none : length (b ∷ g) ≡ 0 = eqb-true _ 0 (and_parts _ a (sym e)).0 in absurd (cc)
own_path false a g u e f = ((λ _. f), (λ _. refl))

-- ---- a text that is that of the normal form

unregistered_text : (x u : List ℕ) (o : Option RegisteredScheme) → Unregistered u ≡ scheme.registered_or x o → u ≡ x
unregistered_text x u (Some r) e = absurd (cc)
unregistered_text x u None e = cc

canonical_scheme_read : (x : List ℕ) (q : Scheme) → q ≡ scheme.named x → x ≡ scheme.text (canonical_scheme q) → scheme.text q ≡ x
canonical_scheme_read x (Registered r) e f = sym f
canonical_scheme_read x (Unregistered u) e f = unregistered_text x u (registered_named (str_to_ascii_lowercase x)) e

scheme_printed : (o : Option (List ℕ)) (q : Option Scheme) → IfPresent scheme.Spells o q → option_map scheme.text (option_map canonical_scheme q) ≡ o
    → option_map scheme.text q ≡ o
scheme_printed None None h e = refl
scheme_printed None (Some q) h e = absurd h
scheme_printed (Some x) None h e = absurd h
scheme_printed (Some x) (Some q) h e = let f : scheme.text (canonical_scheme q) ≡ x = cc in ap Some (canonical_scheme_read x q h.value (sym f))

authority_printed : (o : Option (List ℕ)) (q : Option AuthorityParts) → IfPresent authority.Spells o q
    → option_map authority.print (option_map canonical_authority q) ≡ o → option_map authority.print q ≡ o
authority_printed None None h e = refl
authority_printed None (Some q) h e = absurd h
authority_printed (Some x) None h e = absurd h
authority_printed (Some x) (Some q) h e = let f : authority.print (canonical_authority q) ≡ x = cc in ap Some (canonical_read x q h f)

-- an absolute path has a text
some_text : (q : PathParts) → q.absolute ≡ true → text q ≡ [] → ⊥
some_text q e h = let f = rw e at h in absurd (cc)

path_printed : (t : List ℕ) (p : Parts) (s : Spells t p) → text (normal p).path ≡ path_text t → text p.path ≡ path_text t
path_printed t p s e =
    let cut = cut_of t p s in
    let there = authority_valid s.authority_text p.authority s.is_authority in
    ap text s.path
    ∙ text-path_of (is_some s.authority_text) s.path_text (λ w. held s.authority_text w s.abempty)
    ∙ filled s.path_text (is_some s.authority_text) (λ w k. some_text (normal p).path
    (absolute p.authority (normal_valid p (valid t p s)).absolute (sym there.1 ∙ w)) (e ∙ cut.path ∙ k))
    ∙ sym cut.path
  where
    held : {Q : Type 0} (o : Option (List ℕ)) → is_some o ≡ true → IfSome o (λ _. Q) → Q
    held None i h = absurd (cc)
    held (Some x) i h = h

    absolute : {Q : Type 0} (a : Option AuthorityParts) → IfSome (option_map canonical_authority a) (λ _. Q) → is_some a ≡ true → Q
    absolute None h i = absurd (cc)
    absolute (Some a) h i = h

    filled : (h : List ℕ) (w : Bool) → (w ≡ true → h ≡ [] → ⊥) → cond ((length h == 0) && w) (slash ∷ []) h ≡ h
    filled [] true f = absurd (f refl refl)
    filled [] false f = refl
    filled (b ∷ h) w f = ap (λ v. cond (v && w) (slash ∷ []) (b ∷ h)) (not_empty b h)

pub normal_printed : (t : List ℕ) (p : Parts) → Spells t p → print (normal p) ≡ t → print p ≡ t
normal_printed t p s e =
    let cut = print_cut (normal p) (normal_valid p (valid t p s)) in
    whole_printed t p s (record {
      is_scheme = scheme_printed (scheme_text t) p.scheme (scheme_there t p s) (sym cut.scheme ∙ ap scheme_text e);
      is_authority = authority_printed (authority_text t) p.authority (authority_there t p s) (sym cut.authority ∙ ap authority_text e);
      is_path = path_printed t p s (sym cut.path ∙ ap path_text e);
    })

-- ---- the tests of both, first of the path, the scheme and the authority

module _ (t : List ℕ) (p : Parts) (s : Spells t p) where
  normal_texts : print (normal p) ≡ t → HasOwnTexts t p
  normal_texts e =
      let are = parts_printed t p s (normal_printed t p s e) in
      (are.is_path, are.is_scheme, sym (print_cut (normal p) (normal_valid p (valid t p s))).authority ∙ ap authority_text e)

  pub other_front : (r : Bool) → IsTrue r ↔ HasOwnTexts t p → r ≡ false → IsTrue r ↔ (print (normal p) ≡ t)
  other_front r test e = ((λ i. absurd (false≢true (sym e ∙ i))), (λ h. test.1 (normal_texts h)))

  pub same_front : (x r : Bool) → IsTrue x ↔ HasOwnTexts t p → x ≡ true → r ≡ is_normal_outside p → IsTrue r ↔ (print (normal p) ≡ t)
  same_front x r front e test =
      let are = front.0 e in
      let printed : authority_part p ≡ authority_text t = authority_printed (authority_text t) p.authority (authority_there t p s) are.2 in
      let whole : print p ≡ t = whole_printed t p s (record { is_scheme = are.1; is_authority = printed; is_path = are.0 }) in
      let canon : option_eq bytes_eq (option_map authority.canonical_text p.authority) (authority_part p) ≡ true =
      (same_texts _ _).1 (sym (authority-print p.authority) ∙ are.2 ∙ sym printed) in
      let normal_too : is_normal p ≡ is_normal_outside p =
      ap (λ v. option_eq bytes_eq (option_map scheme.canonical_text p.scheme) (scheme_part p)
      && (v && (paths.is_normal_at (context p) p.path
      && (option_eq bytes_eq (option_map canonical p.query) p.query && option_eq bytes_eq (option_map canonical p.fragment) p.fragment)))) canon in
      let exactly = normal_exactly p (valid t p s) in
      ((λ i. exactly.0 (normal_too ∙ sym test ∙ i) ∙ whole), (λ h. test ∙ sym normal_too ∙ exactly.1 (h ∙ sym whole)))
