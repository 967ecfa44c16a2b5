-- Which paths may follow a scheme or none and an authority or none, by their segments.
use Rattle.std.proofs.Common.{◌≡◌, ℕ, ◌<◌, ◌≤◌, Bool, true, false, ◌&&◌, ◌||◌, not, cond, List, [], ◌∷◌, ◌++◌, suc, length, drop, flat_map, Option, Some, None}
use Rattle.std.proofs.Common.{refl, sym, ap, ◌∙◌, subst, arith, append-nil}
use Rattle.std.specs.Prelude.{IfSome, is_some}
use Rattle.std.proofs.lemmas.Bool.{false≢true, and_parts, and_from, not-true}
use Rattle.uriparse_text.specs.Bytes.{dot, slash, colon}
use Rattle.uriparse_text.specs.Cuts.{lacks, up_to}
use Rattle.uriparse_text.proofs.lemmas.readings.CutLemmas.{up_to-append}
use Rattle.uriparse_path.specs.Path.{PathParts, IsListed, max_segments, text, is_slash, is_rooted, starts_with_empty_segment, has_hidden_root, respelled, has_two_slashes}
use Rattle.uriparse_path.specs.Relative.{is_first, has_colon}
use Rattle.uriparse_path.specs.Normal.{stays_relative, pnormal}
use Rattle.uriparse_path.proofs.lemmas.text.SplitLemmas.{joined-following}
use Rattle.uriparse_path.proofs.lemmas.text.PathTextLemmas.{spelled-text, lacks_slash}
use Rattle.uriparse_path.proofs.lemmas.text.CanonicalTextLemmas.{length-canonical}
use Rattle.uriparse_path.proofs.lemmas.dots.DotSegmentLemmas.{has-lacks}
use Rattle.uriparse_path.proofs.lemmas.normal.RelativeFormLemmas.{dot_segment, hides-canonical, hides_relative}
use Rattle.uriparse_path.proofs.lemmas.normal.NormalFormLemmas.{rooted-text, listed_pnormal, length_pnormal, pnormal_spelled, pnormal_absolute, pnormal_relative, pnormal_colon}
use Rattle.uriparse_path.proofs.lemmas.merge.MergedNormalFormLemmas.{undotted, pnormal_is, dot_undotted, room}
use Rattle.uriparse_authority.specs.Authority as authority
use Rattle.uriparse_authority.specs.Authority.{AuthorityParts}
use Rattle.uriparse_scheme.specs.declared.scheme.Scheme.{Scheme}
use Rattle.uriparse_scheme.specs.Scheme as scheme
use Rattle.uriparse_text.specs.Query.{IsQuery}
use Rattle.uriparse_text.specs.Fragment.{IsFragment}
use Rattle.uriparse_reference.specs.declared.uri_reference.error.URIReferenceError.TheVariants as errors
use Rattle.uriparse_reference.specs.Reference.{Parts, is_noscheme, path_refusal, Valid}
use Rattle.uriparse_path.specs.Edits.{dotted}
use Rattle.uriparse_reference.specs.Normal.{dot_prefixed}
use Rattle.uriparse_reference.proofs.lemmas.reading.SpellingLemmas.{HasPlace}
use Rattle.uriparse_reference.proofs.lemmas.reading.CutLemmas.{no_slashes, no_colon}
use Rattle.uriparse_reference.proofs.lemmas.edits.EditLemmas.{if_there}

-- The path may follow an authority, or may be without one.
pub record Fits (v : Bool) (p : PathParts) : Type 0 where
  pub listed : IsListed p.segments
  pub formed : respelled p ≡ p
  pub rooted : v ≡ true → p.absolute ≡ true
  pub shown : v ≡ false → starts_with_empty_segment p.segments ≡ false

abbrev pub make : Bool → List (List ℕ) → PathParts
make a l = record { absolute = a; segments = l }

-- a relative path that its text spells does not begin with an empty segment and another
pub formed_shown : (p : PathParts) → respelled p ≡ p → p.absolute ≡ false → starts_with_empty_segment p.segments ≡ false
formed_shown p h k = by_hides (starts_with_empty_segment p.segments) refl
  where
    by_hides : (v : Bool) → starts_with_empty_segment p.segments ≡ v → v ≡ false
    by_hides false e = refl
    by_hides true e =
        let test : (not p.absolute && starts_with_empty_segment p.segments) ≡ true = and_from _ _ (ap not k) e in
        absurd (false≢true (sym k ∙ sym (ap (λ q. q.absolute) (sym (ap (λ w. cond w (make true (drop 1 p.segments)) p) test) ∙ h))))

pub absolute_formed : (p : PathParts) → p.absolute ≡ true → respelled p ≡ p
absolute_formed p h = ap (λ w. cond (not w && starts_with_empty_segment p.segments) (make true (drop 1 p.segments)) p) h

pub two_slashes : (p : PathParts) → IsListed p.segments → respelled p ≡ p → has_two_slashes (text p) ≡ (p.absolute && starts_with_empty_segment p.segments)
two_slashes p is h = by_flag p.absolute p.segments is (formed_shown p h)
  where
    by_flag : (a : Bool) (l : List (List ℕ)) → IsListed l → (a ≡ false → starts_with_empty_segment l ≡ false) → has_two_slashes (text (make a l)) ≡ (a && starts_with_empty_segment l)
    by_flag true l is f = rooted-text (make false l) is
    by_flag false l is f = let no : is_rooted (text (make false l)) ≡ false = rooted-text (make false l) is ∙ f refl in rw no refl

pub rooted_formed : (p : PathParts) → IsListed p.segments → respelled p ≡ p → is_rooted (text p) ≡ p.absolute
rooted_formed p is h = by_flag p.absolute p.segments is (formed_shown p h)
  where
    by_flag : (a : Bool) (l : List (List ℕ)) → IsListed l → (a ≡ false → starts_with_empty_segment l ≡ false) → is_rooted (text (make a l)) ≡ a
    by_flag true l is f = refl
    by_flag false l is f = rooted-text (make false l) is ∙ f refl

-- ---- the colon rule, by the first segment

twice_not : (v w : Bool) → v ≡ not w → w ≡ not v
twice_not true true h = absurd (false≢true (sym h))
twice_not true false h = refl
twice_not false true h = refl
twice_not false false h = absurd (false≢true h)

pub noscheme-text : (l : List (List ℕ)) → IsListed l → is_noscheme (text (make false l)) ≡ not (is_first has_colon l)
noscheme-text [] is = absurd (omega (arith, is.some))
noscheme-text (s ∷ ss) is =
    ap is_noscheme (joined-following s ss)
    ∙ ap (lacks colon) (up_to-append is_slash s (flat_map (λ r. slash ∷ r) ss) (lacks_slash s (and_parts _ _ is.each).0) ∙ ap (λ u. s ++ u) (ends ss)
    ∙ append-nil s)
    ∙ twice_not (has_colon s) (lacks colon s) (has-lacks colon s)
  where
    ends : (l : List (List ℕ)) → up_to is_slash (flat_map (λ r. slash ∷ r) l) ≡ []
    ends [] = refl
    ends (r ∷ l) = refl

-- ---- the path of a valid reference

pub plain_formed : (p : PathParts) → has_hidden_root p ≡ false → respelled p ≡ p
plain_formed p h = ap (λ w. cond w (make true (drop 1 p.segments)) p) h

formed_plain : (p : PathParts) → respelled p ≡ p → has_hidden_root p ≡ false
formed_plain p h = by_flag p.absolute (formed_shown p h)
  where
    by_flag : (a : Bool) → (a ≡ false → starts_with_empty_segment p.segments ≡ false) → (not a && starts_with_empty_segment p.segments) ≡ false
    by_flag true f = refl
    by_flag false f = f refl

in_place : (v w : Bool) (p : PathParts) → HasPlace v w p → Fits w p
in_place v true p is = record { listed = is.is_path; formed = plain_formed p is.plain; rooted = is.absolute; shown = λ h. absurd (false≢true (sym h)) }
in_place v false p is =
    let formed : respelled p ≡ p = plain_formed p is.plain in
    let two : (p.absolute && starts_with_empty_segment p.segments) ≡ false = sym (two_slashes p is.is_path formed) ∙ no_slashes v (text p) is.fit in
    record { listed = is.is_path; formed = formed; rooted = is.absolute; shown = λ h. by_flag p.absolute two (formed_shown p formed) }
  where
    by_flag : (a : Bool) → (a && starts_with_empty_segment p.segments) ≡ false → (a ≡ false → starts_with_empty_segment p.segments ≡ false) → starts_with_empty_segment p.segments ≡ false
    by_flag true two f = two
    by_flag false two f = f refl

there : {Q : Type 0} (a : Option AuthorityParts) → IfSome a (λ _. Q) → is_some a ≡ true → Q
there None h e = absurd (false≢true e)
there (Some a) h e = h

pub fits_of : (p : Parts) → Valid p → Fits (is_some p.authority) p.path
fits_of p v = in_place (is_some p.scheme) (is_some p.authority) p.path (record {
  is_path = v.is_path;
  absolute = there p.authority v.absolute;
  plain = v.plain;
  fit = v.fit;
})

pub colon_of : (p : Parts) → Valid p → is_some p.scheme ≡ false → is_some p.authority ≡ false → p.path.absolute ≡ false
    → is_first has_colon p.path.segments ≡ false
colon_of p v h k e = by_flag p.path.absolute p.path.segments e v.is_path (ap (λ u. path_refusal u false (text p.path)) (sym h)
    ∙ ap (λ u. path_refusal (is_some p.scheme) u (text p.path)) (sym k) ∙ v.fit)
  where
    by_flag : (a : Bool) (l : List (List ℕ)) → a ≡ false → IsListed l → path_refusal false false (text (make a l)) ≡ None → is_first has_colon l ≡ false
    by_flag true l e is f = absurd (false≢true (sym e))
    by_flag false l e is f = not-true (is_first has_colon l) (sym (noscheme-text l is) ∙ no_colon (text (make false l)) f)

-- ---- a path that obeys the rules makes valid components

pub placed : (v w : Bool) (p : PathParts) → Fits w p → (v ≡ false → w ≡ false → p.absolute ≡ false → is_first has_colon p.segments ≡ false) → HasPlace v w p
placed v w p is c = record { is_path = is.listed; absolute = is.rooted; plain = formed_plain p is.formed; fit = by_authority w is c }
  where
    no_two : Fits false p → has_two_slashes (text p) ≡ false
    no_two is = two_slashes p is.listed is.formed ∙ ap (λ u. p.absolute && u) (is.shown refl) ∙ by_flag p.absolute
      where
        by_flag : (a : Bool) → (a && false) ≡ false
        by_flag true = refl
        by_flag false = refl

    by_colon : (a : Bool) (l : List (List ℕ)) → IsListed l → (a ≡ false → is_first has_colon l ≡ false) → is_noscheme (text (make a l)) ≡ true
    by_colon true l is f = refl
    by_colon false l is f = noscheme-text l is ∙ ap not (f refl)

    by_scheme : (v : Bool) → Fits false p → (v ≡ false → p.absolute ≡ false → is_first has_colon p.segments ≡ false) → (v || is_noscheme (text p)) ≡ true
    by_scheme true is c = refl
    by_scheme false is c = by_colon p.absolute p.segments is.listed (c refl)

    by_authority : (w : Bool) → Fits w p → (v ≡ false → w ≡ false → p.absolute ≡ false → is_first has_colon p.segments ≡ false)
        → path_refusal v w (text p) ≡ None
    by_authority true is c = refl
    by_authority false is c =
        ap (λ u. cond u (Some errors.AbsolutePathStartsWithTwoSlashes)
        (cond (v || is_noscheme (text p)) None (Some errors.SchemelessPathStartsWithColonSegment))) (no_two is)
        ∙ ap (λ u. cond u None (Some errors.SchemelessPathStartsWithColonSegment)) (by_scheme v is (λ h. c h refl))

pub valid_made : (s : Option Scheme) (a : Option AuthorityParts) (p : PathParts) (q f : Option (List ℕ)) → IfSome s scheme.Valid → IfSome a authority.Valid
    → HasPlace (is_some s) (is_some a) p → IfSome q IsQuery → IfSome f IsFragment
    → Valid (record { scheme = s; authority = a; path = p; query = q; fragment = f })
valid_made s a p q f vs va is vq vf = record {
  is_scheme = vs;
  is_authority = va;
  is_path = is.is_path;
  absolute = if_there a is.absolute;
  plain = is.plain;
  fit = is.fit;
  is_query = vq;
  is_fragment = vf;
}

-- ---- the leading "."

pub shielded_cases : (q : PathParts) (P : PathParts → Type 0) → (has_two_slashes (text q) ≡ true → P (dotted q)) → (has_two_slashes (text q) ≡ false → P q)
    → P (dot_prefixed None q)
shielded_cases q P f g = by_test (has_two_slashes (text q)) f g
  where
    by_test : (v : Bool) → (v ≡ true → P (dotted q)) → (v ≡ false → P q) → P (cond v (dotted q) q)
    by_test true f g = f refl
    by_test false f g = g refl

pub fits_shielded : (a : Option AuthorityParts) (q : PathParts) → IsListed q.segments → respelled q ≡ q → (is_some a ≡ true → q.absolute ≡ true)
    → (is_some a ≡ false → starts_with_empty_segment q.segments ≡ true → suc (length q.segments) ≤ max_segments) → Fits (is_some a) (dot_prefixed a q)
fits_shielded (Some a) q is h f g = record { listed = is; formed = h; rooted = f; shown = λ k. absurd (false≢true (sym k)) }
fits_shielded None q is h f g = shielded_cases q (λ p. Fits false p)
    (λ e. let both = and_parts q.absolute (starts_with_empty_segment q.segments) (sym (two_slashes q is h) ∙ e) in
    let fit = g refl both.1 in
    record {
      listed = record { some = omega arith; short = omega (arith, fit); each = and_from _ _ dot_segment is.each };
      formed = dot_formed q.absolute;
      rooted = λ k. absurd (false≢true k);
      shown = λ k. refl;
    })
    (λ e. record {
      listed = is;
      formed = h;
      rooted = λ k. absurd (false≢true k);
      shown = λ k. by_flag q.absolute (sym (two_slashes q is h) ∙ e) (formed_shown q h);
    })
  where
    dot_formed : (a : Bool) → respelled (make a ((dot ∷ []) ∷ q.segments)) ≡ make a ((dot ∷ []) ∷ q.segments)
    dot_formed true = refl
    dot_formed false = refl

    by_flag : (a : Bool) → (a && starts_with_empty_segment q.segments) ≡ false → (a ≡ false → starts_with_empty_segment q.segments ≡ false) → starts_with_empty_segment q.segments ≡ false
    by_flag true two f = two
    by_flag false two f = f refl

pub undotted_shielded : (a : Option AuthorityParts) (q : PathParts) → 0 < length q.segments → undotted (dot_prefixed a q) ≡ undotted q
undotted_shielded (Some a) q h = refl
undotted_shielded None q h = shielded_cases q (λ p. undotted p ≡ undotted q) (λ e. dot_undotted q.absolute q.segments h) (λ e. refl)

-- a path that may be without an authority needs none
pub shielded_fits : (a : Option AuthorityParts) (q : PathParts) → Fits (is_some a) q → dot_prefixed a q ≡ q
shielded_fits (Some a) q is = refl
shielded_fits None q is =
    shielded_cases q (λ p. p ≡ q) (λ e. absurd (false≢true (sym (is.shown refl)
    ∙ (and_parts q.absolute (starts_with_empty_segment q.segments) (sym (two_slashes q is.listed is.formed) ∙ e)).1))) (λ e. refl)

-- ---- the normal form of a path that obeys the rules

pub pnormal_formed : (p : PathParts) (r : Bool) → IsListed p.segments → respelled p ≡ p → respelled (pnormal p r) ≡ pnormal p r
pnormal_formed p r is h = sym (spelled-text (pnormal p r) (listed_pnormal p r is)) ∙ pnormal_spelled p r is (spelled-text p is ∙ h)

-- if it comes to begin with an empty segment and another, it has become shorter
pub pnormal_room : (p : PathParts) (r : Bool) → Fits false p → starts_with_empty_segment (pnormal p r).segments ≡ true
    → suc (length (pnormal p r).segments) ≤ length p.segments
pnormal_room p r is h = by_case (stays_relative p r) refl
  where
    by_case : (v : Bool) → stays_relative p r ≡ v → suc (length (pnormal p r).segments) ≤ length p.segments
    by_case true e = absurd (false≢true (sym (hides_relative p.segments) ∙ ap (λ q. starts_with_empty_segment q.segments) (sym (pnormal_relative p r e)) ∙ h))
    by_case false e =
        let same = pnormal_is p r is.listed is.formed e in
        let hidden : starts_with_empty_segment (undotted p).segments ≡ true = sym (hides-canonical (undotted p).segments) ∙ ap (λ q. starts_with_empty_segment q.segments) (sym same) ∙ h in
        let k = room p (is.shown refl) hidden in
        omega (arith, ap (λ q. length q.segments) same, length-canonical (undotted p).segments, k)

pub length_shielded : (a : Option AuthorityParts) (p : PathParts) (r : Bool) → Fits (is_some a) p
    → length (dot_prefixed a (pnormal p r)).segments ≤ length p.segments
length_shielded (Some a) p r is = length_pnormal p r is.listed
length_shielded None p r is = shielded_cases (pnormal p r) (λ q. length q.segments ≤ length p.segments)
    (λ e. let both = and_parts (pnormal p r).absolute (starts_with_empty_segment (pnormal p r).segments)
    (sym (two_slashes (pnormal p r) (listed_pnormal p r is.listed) (pnormal_formed p r is.listed is.formed)) ∙ e) in
    let k = pnormal_room p r is both.1 in omega (arith, k))
    (λ e. length_pnormal p r is.listed)

pub fits_normal : (a : Option AuthorityParts) (p : PathParts) (r : Bool) → Fits (is_some a) p → Fits (is_some a) (dot_prefixed a (pnormal p r))
fits_normal a p r is = fits_shielded a (pnormal p r) (listed_pnormal p r is.listed) (pnormal_formed p r is.listed is.formed)
    (λ h. pnormal_absolute p r is.listed (is.rooted h))
    (λ h k. let n = pnormal_room p r (subst (λ v. Fits v p) h is) k in let s = is.listed.short in omega (arith, n, s))

-- a schemeless one keeps the colon rule
pub colon_normal : (a : Option AuthorityParts) (p : PathParts) → Fits false p → is_some a ≡ false
    → (p.absolute ≡ false → is_first has_colon p.segments ≡ false) → (dot_prefixed a (pnormal p true)).absolute ≡ false
    → is_first has_colon (dot_prefixed a (pnormal p true)).segments ≡ false
colon_normal (Some a) p is h f k = absurd (false≢true (sym h))
colon_normal None p is h f k = shielded_cases (pnormal p true) (λ q. q.absolute ≡ false
    → is_first has_colon q.segments ≡ false) (λ e k. refl) (λ e k. by_flag p.absolute refl k) k
  where
    by_flag : (v : Bool) → p.absolute ≡ v → (pnormal p true).absolute ≡ false → is_first has_colon (pnormal p true).segments ≡ false
    by_flag true e k = absurd (false≢true (sym k ∙ pnormal_absolute p true is.listed e))
    by_flag false e k = pnormal_colon p (rooted_formed p is.listed is.formed ∙ e) (f e)
