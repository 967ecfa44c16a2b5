-- The reference that leads from a base to a target, case by case, and what it leaves out.
use Rattle.std.proofs.Common.{◌≡◌, ◌⊎◌, ℕ, Bool, true, false, ◌||◌, not, cond, List, Option, Some, None, inl, inr, refl, sym, ap, ◌∙◌, subst, ⊎_elim, IsSome, bytes_eq}
use Rattle.std.specs.Prelude.{IfSome, is_none, is_some, unwrap_or}
use Rattle.std.specs.Bool.{Decides}
use Rattle.std.specs.Option.{option_eq, option_map}
use Rattle.std.proofs.lemmas.Bool.{false≢true, and_parts, and_from, not-true}
use Rattle.std.proofs.lemmas.Bool.Decides.{Decides-eqb, Decides-not, not_from_Decides}
use Rattle.std.proofs.lemmas.Slice.Eq.{bytes_eq-Decides}
use Rattle.uriparse_path.specs.Path.{PathParts, spelled, text}
use Rattle.uriparse_path.specs.Dots.{has_dot_segment}
use Rattle.uriparse_authority.specs.Authority as authority
use Rattle.uriparse_authority.specs.Authority.{AuthorityParts}
use Rattle.uriparse_authority.proofs.lemmas.authorities.NormalLemmas.{one_printed}
use Rattle.uriparse_scheme.specs.declared.scheme.Scheme.{Scheme}
use Rattle.uriparse_scheme.specs.Scheme as scheme
use Rattle.uriparse_reference.specs.Key.{kind_code}
use Rattle.uriparse_reference.specs.Reference.{Parts, ReadsBack, Spells, Valid, authority_part, kind, path_refusal, print, scheme_part}
use Rattle.uriparse_reference.specs.Target.{target}
use Rattle.uriparse_reference.specs.Relate.{IsInPlace, IsQueryLeft, Relates, following_path, has_same_authority, has_same_scheme, in_place, inner, is_in_place, as_network_path, query_left, relative, without_scheme}
use Rattle.uriparse_reference.proofs.lemmas.edits.PathRuleLemmas.{fits_of}
use Rattle.uriparse_reference.proofs.lemmas.equality.EqualityLemmas.{same_kind}
use Rattle.uriparse_reference.proofs.lemmas.reading.SpellingLemmas.{back}
use Rattle.uriparse_reference.proofs.lemmas.resolving.RelativizeLemmas.{back_again, fit_leads, fit_valid, inner_leads, inner_valid, left_query, listed_inner, network_leads, same_scheme, some_is, whole_leads}
use Rattle.uriparse_reference.proofs.lemmas.writing.EndLemmas.{path_spelled}

-- ---- the tests

false_from : {P : Type 0} (r : Bool) → Decides r P → (P → ⊥) → r ≡ false
false_from r is n = not-true r ((Decides-not r is).1 n)

same_texts : (x y : Option (List ℕ)) → Decides (option_eq bytes_eq x y) (x ≡ y)
same_texts None None = (λ e. refl, λ e. refl)
same_texts None (Some y) = (λ e. absurd (false≢true e), λ e. absurd (cc))
same_texts (Some x) None = (λ e. absurd (false≢true e), λ e. absurd (cc))
same_texts (Some x) (Some y) = let test = bytes_eq-Decides x y in (λ e. ap Some (test.0 e), λ e. test.1 (some_is x y e))

known_scheme : (x y : Option Scheme) → IfSome x scheme.Valid → IfSome y scheme.Valid → option_map scheme.text x ≡ option_map scheme.text y → x ≡ y
known_scheme None None v w e = refl
known_scheme None (Some y) v w e = absurd (cc)
known_scheme (Some x) None v w e = absurd (cc)
known_scheme (Some x) (Some y) v w e = ap Some (same_scheme x y v w (some_is (scheme.text x) (scheme.text y) e))

known_authority : (x y : Option AuthorityParts) → IfSome x authority.Valid → IfSome y authority.Valid → option_map authority.print x ≡ option_map authority.print y
    → option_map authority.kind x ≡ option_map authority.kind y → x ≡ y
known_authority None None v w e k = refl
known_authority None (Some y) v w e k = absurd (cc)
known_authority (Some x) None v w e k = absurd (cc)
known_authority (Some x) (Some y) v w e k = ap Some (one_printed x y v w (some_is (authority.print x) (authority.print y) e) (some_is (authority.kind x) (authority.kind y) k))

pub same_schemes : (b t : Parts) → Valid b → Valid t → Decides (has_same_scheme b t) (b.scheme ≡ t.scheme)
same_schemes b t v w =
    let test = same_texts (scheme_part b) (scheme_part t) in
    (λ e. known_scheme b.scheme t.scheme v.is_scheme w.is_scheme (test.0 e), λ e. test.1 (ap (option_map scheme.text) e))

pub same_authorities : (b t : Parts) → Valid b → Valid t → Decides (has_same_authority b t) (b.authority ≡ t.authority)
same_authorities b t v w =
    let texts = same_texts (authority_part b) (authority_part t) in
    let codes = Decides-eqb (kind_code (kind b)) (kind_code (kind t)) in (
      λ e. let both = and_parts _ _ e in
          known_authority b.authority t.authority v.is_authority w.is_authority (texts.0 both.0) (same_kind (kind b) (kind t) (codes.0 both.1)),
      λ e. and_from _ _ (texts.1 (ap (option_map authority.print) e)) (codes.1 (ap (λ a. kind_code (option_map authority.kind a)) e)),
    )

query_place : (x y : Option (List ℕ)) → Decides (is_some y || is_none x) (IsSome y ⊎ (x ≡ None))
query_place x (Some y) = (λ e. inl refl, λ e. refl)
query_place None None = (λ e. inr refl, λ e. refl)
query_place (Some x) None = (λ e. absurd (false≢true e), λ e. ⊎_elim (λ k. absurd (false≢true k)) (λ k. absurd (cc)) e)

pub same_place : (b t : Parts) → Valid b → Valid t → Decides (is_in_place b t) (IsInPlace b t)
same_place b t v w =
    let texts = bytes_eq-Decides (text b.path) (text t.path) in
    let queries = query_place b.query t.query in (
      λ e. let both = and_parts _ _ e in
          let rest = and_parts _ _ both.1 in
          record {
            path = sym (path_spelled b v) ∙ ap spelled (texts.0 both.0) ∙ path_spelled t w;
            no_dots = not-true (has_dot_segment t.path.segments) rest.0;
            query = queries.0 rest.1;
          },
      λ is. and_from _ _ (texts.1 (ap text is.path)) (and_from _ _ (ap not is.no_dots) (queries.1 is.query)),
    )

pub query_is : (b t : Parts) (q : Option (List ℕ)) → IsQueryLeft b t q → q ≡ query_left b t
query_is b t q left = ⊎_elim (λ k. k.1 ∙ sym (by_test true ((same_texts b.query t.query).1 k.0)))
    (λ k. k.1 ∙ sym (by_test false (false_from _ (same_texts b.query t.query) k.0))) left
  where
    by_test : (w : Bool) → option_eq bytes_eq b.query t.query ≡ w → query_left b t ≡ cond {A = Option (List ℕ)} w None t.query
    by_test w e = ap (λ w. cond {A = Option (List ℕ)} w None t.query) e

left_is : (b t : Parts) → IsQueryLeft b t (query_left b t)
left_is b t = by_test (option_eq bytes_eq b.query t.query) refl
  where
    by_test : (w : Bool) → option_eq bytes_eq b.query t.query ≡ w → IsQueryLeft b t (cond {A = Option (List ℕ)} w None t.query)
    by_test true e = inl ((same_texts b.query t.query).0 e, refl)
    by_test false e = inr (not_from_Decides _ (same_texts b.query t.query) e, refl)

-- ---- the cases

abbrev chosen : Bool → Bool → Bool → Option PathParts → Parts → Parts → Parts
chosen s a p o b t =
    cond {A = Parts} (not s) t (cond {A = Parts} (not a) (as_network_path t) (cond {A = Parts} p (in_place b t) (unwrap_or (option_map (following_path t) o) (as_network_path t))))

relative_is : (b t : Parts) → relative b t ≡ chosen (has_same_scheme b t) (has_same_authority b t) (is_in_place b t) (inner b.path t.path) b t
unfolding relative
relative_is b t = refl

case_is : (b t : Parts) (s a p : Bool) (o : Option PathParts) → has_same_scheme b t ≡ s → has_same_authority b t ≡ a → is_in_place b t ≡ p → inner b.path t.path ≡ o
    → relative b t ≡ chosen s a p o b t
case_is b t s a p o e f g h =
    relative_is b t
    ∙ ap (λ w. chosen w (has_same_authority b t) (is_in_place b t) (inner b.path t.path) b t) e
    ∙ ap (λ w. chosen s w (is_in_place b t) (inner b.path t.path) b t) f
    ∙ ap (λ w. chosen s a w (inner b.path t.path) b t) g
    ∙ ap (λ w. chosen s a p w b t) h

module _ (b t : Parts) (vb : Valid b) (vt : Valid t) where
  pub relative_other : (b.scheme ≡ t.scheme → ⊥) → relative b t ≡ t
  relative_other n = case_is b t false _ _ _ (false_from _ (same_schemes b t vb vt) n) refl refl refl

  pub relative_network : b.scheme ≡ t.scheme → (b.authority ≡ t.authority → ⊥) → relative b t ≡ as_network_path t
  relative_network s n = case_is b t true false _ _ ((same_schemes b t vb vt).1 s) (false_from _ (same_authorities b t vb vt) n) refl refl

  pub relative_in_place : b.scheme ≡ t.scheme → b.authority ≡ t.authority → IsInPlace b t → relative b t ≡ in_place b t
  relative_in_place s a is =
      case_is b t true true true _ ((same_schemes b t vb vt).1 s) ((same_authorities b t vb vt).1 a) ((same_place b t vb vt).1 is) refl

  pub relative_inner : (p : PathParts) → b.scheme ≡ t.scheme → b.authority ≡ t.authority → (IsInPlace b t → ⊥) → inner b.path t.path ≡ Some p
      → relative b t ≡ following_path t p
  relative_inner p s a n e =
      case_is b t true true false (Some p) ((same_schemes b t vb vt).1 s) ((same_authorities b t vb vt).1 a) (false_from _ (same_place b t vb vt) n) e

  pub relative_none : b.scheme ≡ t.scheme → b.authority ≡ t.authority → (IsInPlace b t → ⊥) → inner b.path t.path ≡ None → relative b t ≡ as_network_path t
  relative_none s a n e =
      case_is b t true true false None ((same_schemes b t vb vt).1 s) ((same_authorities b t vb vt).1 a) (false_from _ (same_place b t vb vt) n) e

-- ---- what holds in each

valid_network : (t : Parts) → Valid t → Valid (as_network_path t)
valid_network t v = by_authority (is_some t.authority) refl
  where
    by_authority : (w : Bool) → is_some t.authority ≡ w → Valid (cond {A = Parts} w (without_scheme t) t)
    by_authority false e = v
    by_authority true e = record {
      is_scheme = tt;
      is_authority = v.is_authority;
      is_path = v.is_path;
      absolute = v.absolute;
      plain = v.plain;
      fit = ap (λ w. path_refusal false w (text t.path)) e;
      is_query = v.is_query;
      is_fragment = v.is_fragment;
    }

module _ (P : Parts → Type 0) (b t : Parts) (vb : Valid b) (vt : Valid t)
    (other : (b.scheme ≡ t.scheme → ⊥) → P t)
    (apart : b.scheme ≡ t.scheme → (b.authority ≡ t.authority → (inner b.path t.path ≡ None) × (IsInPlace b t → ⊥)) → P (as_network_path t))
    (placed : b.scheme ≡ t.scheme → b.authority ≡ t.authority → IsInPlace b t → P (in_place b t))
    (led : (p : PathParts) → b.scheme ≡ t.scheme → b.authority ≡ t.authority → (IsInPlace b t → ⊥) → inner b.path t.path ≡ Some p → P (following_path t p)) where
  by_case : P (relative b t)
  by_case = by_scheme (has_same_scheme b t) refl
    where
      by_inner : (o : Option PathParts) → b.scheme ≡ t.scheme → b.authority ≡ t.authority → (IsInPlace b t → ⊥) → inner b.path t.path ≡ o → P (relative b t)
      by_inner (Some p) s a n e = subst P (sym (relative_inner b t vb vt p s a n e)) (led p s a n e)
      by_inner None s a n e = subst P (sym (relative_none b t vb vt s a n e)) (apart s (λ _. (e, n)))

      by_place : (w : Bool) → b.scheme ≡ t.scheme → b.authority ≡ t.authority → is_in_place b t ≡ w → P (relative b t)
      by_place true s a e =
          let is = (same_place b t vb vt).0 e in
          subst P (sym (relative_in_place b t vb vt s a is)) (placed s a is)
      by_place false s a e = by_inner (inner b.path t.path) s a (not_from_Decides _ (same_place b t vb vt) e) refl

      by_authority : (w : Bool) → b.scheme ≡ t.scheme → has_same_authority b t ≡ w → P (relative b t)
      by_authority true s e = by_place (is_in_place b t) s ((same_authorities b t vb vt).0 e) refl
      by_authority false s e =
          let n = not_from_Decides _ (same_authorities b t vb vt) e in
          subst P (sym (relative_network b t vb vt s n)) (apart s (λ a. absurd (n a)))

      by_scheme : (w : Bool) → has_same_scheme b t ≡ w → P (relative b t)
      by_scheme true e = by_authority (has_same_authority b t) ((same_schemes b t vb vt).0 e) refl
      by_scheme false e =
          let n = not_from_Decides _ (same_schemes b t vb vt) e in
          subst P (sym (relative_other b t vb vt n)) (other n)

-- it leads to the target, and leaves out what it may
pub relates : (b t : Parts) → Valid b → Valid t → is_some t.scheme ≡ true → Relates b t (relative b t)
relates b t vb vt h = by_case (Relates b t) b t vb vt
    (λ n. whole_leads b t n)
    (λ s n. network_leads b t vt s h n)
    (λ s a is. fit_leads b t (in_place b t) vb vt h s a is refl (left_is b t))
    (λ p s a n e. inner_leads b t p vb vt (listed_inner b.path t.path p (fits_of t vt).listed e) h s a n e)

pub valid_relative : (b t : Parts) → Valid b → Valid t → Valid (relative b t)
valid_relative b t vb vt = by_case Valid b t vb vt
    (λ n. vt)
    (λ s n. valid_network t vt)
    (λ s a is. fit_valid t (in_place b t).path (query_left b t) t.fragment refl (left_query b t (query_left b t) vt (left_is b t)) vt.is_fragment)
    (λ p s a n e. inner_valid b t p t.query t.fragment vt e vt.is_query vt.is_fragment)

pub relative_back : (b t : Parts) → Valid b → Valid t → is_some t.scheme ≡ true → has_dot_segment t.path.segments ≡ false → target b (relative b t) ≡ Some t
relative_back b t vb vt h d = (relates b t vb vt h).0 ∙ back_again b t vt h d

-- its text spells it, if the target's does so
network_reads_back : (t : Parts) → ReadsBack t → ReadsBack (as_network_path t)
network_reads_back t r = by_authority (is_some t.authority)
  where
    by_authority : (w : Bool) → ReadsBack (cond {A = Parts} w (without_scheme t) t)
    by_authority true = r
    by_authority false = r

relative_reads_back : (b t : Parts) → Valid b → Valid t → ReadsBack t → ReadsBack (relative b t)
relative_reads_back b t vb vt r = by_case ReadsBack b t vb vt (λ n. r) (λ s n. network_reads_back t r) (λ s a is. tt) (λ p s a n e. tt)

pub relative_spelled : (b t : Parts) → Valid b → Valid t → ReadsBack t → Spells (print (relative b t)) (relative b t)
relative_spelled b t vb vt r = back (relative b t) (valid_relative b t vb vt) (relative_reads_back b t vb vt r)
