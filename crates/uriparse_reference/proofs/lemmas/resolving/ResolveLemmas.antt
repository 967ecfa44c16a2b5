-- The target's components, case by case, and the result that they make.
use Rattle.std.proofs.Common.{◌≡◌, ℕ, ◌≤◌, Bool, true, false, ◌||◌, not, cond, List, [], ◌∷◌, length, Option, Some, None, Result, Ok, Err, IfErr, IfOk, inl}
use Rattle.std.proofs.Common.{inr, refl, sym, ap, ◌∙◌, subst, ⊎_elim, arith, ◌<◌}
use Rattle.std.specs.Prelude.{IfSome, MatchOption, MatchResult, is_some, nat_le}
use Rattle.std.specs.Option.{option_or}
use Rattle.std.proofs.lemmas.Bool.{false≢true, or_parts}
use Rattle.uriparse_text.specs.Readings.{IsUnless}
use Rattle.uriparse_text.specs.declared.segment.error.PathError.{PathError}
use Rattle.uriparse_text.specs.declared.segment.error.PathError.TheVariants.{ExceededMaximumLength, OutOfMemory}
use Rattle.uriparse_path.specs.Path.{PathParts, starts_with_empty_segment, max_segments, text, is_rooted, pieces}
use Rattle.uriparse_path.specs.Dots.{has_dot_segment, without_dots}
use Rattle.uriparse_path.specs.Edits.{with_dot_prefix}
use Rattle.uriparse_path.specs.Merge.{merged, merging}
use Rattle.uriparse_path.proofs.lemmas.merge.MergedNormalFormLemmas.{undotted_kept}
use Rattle.uriparse_authority.specs.Authority.{AuthorityParts}
use Rattle.uriparse_scheme.specs.declared.scheme.Scheme.{Scheme}
use Rattle.uriparse_reference.specs.declared.uri_reference.error.URIReferenceError.{URIReferenceError}
use Rattle.uriparse_reference.specs.declared.uri_reference.error.URIReferenceError.TheVariants as errors
use Rattle.uriparse_reference.specs.Reference.{Parts, Valid}
use Rattle.uriparse_reference.specs.Normal.{dot_prefixed}
use Rattle.uriparse_reference.specs.Target.{merge, dots_removed, is_empty, target_of, target}
use Rattle.uriparse_reference.proofs.lemmas.edits.PathRuleLemmas.{Fits, fits_of, make, rooted_formed, shielded_fits}
use Rattle.uriparse_reference.proofs.lemmas.resolving.MergedPathLemmas.{IsFollowing, merged_spelled, fits_merged}
use Rattle.uriparse_reference.proofs.lemmas.resolving.ValidTargetLemmas.{following, dots_removed-text, dots_removed-merged, chosen}
use Rattle.uriparse_reference.proofs.lemmas.resolving.ValidTargetLemmas.{le_from, target_valid}

-- ---- the target, case by case

-- the reference has a scheme or an authority
abbrev pub has_front : Parts → Bool
has_front r = is_some r.scheme || is_some r.authority

pub target_own : (b r : Parts) → has_front r ≡ true
    → target b r ≡ Some (target_of (option_or r.scheme b.scheme) r.authority (dots_removed (text r.path)) r.query r.fragment)
target_own b r h = by_parts r.scheme r.authority h (dots_removed (text r.path)) (chosen false false (is_empty (text r.path)) (is_rooted (text r.path)) b r)
  where
    by_parts : (s : Option Scheme) (a : Option AuthorityParts) → (is_some s || is_some a) ≡ true → (p : PathParts) (other : Option Parts)
        → cond (is_some s) (Some (target_of s a p r.query r.fragment)) (cond (is_some a) (Some (target_of b.scheme a p r.query r.fragment)) other)
        ≡ Some (target_of (option_or s b.scheme) a p r.query r.fragment)
    by_parts (Some s) a h p other = refl
    by_parts None (Some a) h p other = refl
    by_parts None None h p other = absurd (false≢true h)

target_else : (b r : Parts) → has_front r ≡ false → target b r ≡ chosen false false (is_empty (text r.path)) (is_rooted (text r.path)) b r
target_else b r h =
    let parts = or_parts (is_some r.scheme) (is_some r.authority) h in
    ap (λ v. chosen v (is_some r.authority) (is_empty (text r.path)) (is_rooted (text r.path)) b r) parts.0
    ∙ ap (λ v. chosen false v (is_empty (text r.path)) (is_rooted (text r.path)) b r) parts.1

pub target_kept : (b r : Parts) → has_front r ≡ false → is_empty (text r.path) ≡ true
    → target b r ≡ Some (target_of b.scheme b.authority b.path (option_or r.query b.query) r.fragment)
target_kept b r h e = target_else b r h ∙ ap (λ v. chosen false false v (is_rooted (text r.path)) b r) e

pub target_rooted : (b r : Parts) → has_front r ≡ false → is_empty (text r.path) ≡ false → is_rooted (text r.path) ≡ true
    → target b r ≡ Some (target_of b.scheme b.authority (dots_removed (text r.path)) r.query r.fragment)
target_rooted b r h e k = target_else b r h ∙ ap (λ v. chosen false false v (is_rooted (text r.path)) b r) e ∙ ap (λ v. chosen false false false v b r) k

pub target_merged : (b r : Parts) → has_front r ≡ false → is_empty (text r.path) ≡ false → is_rooted (text r.path) ≡ false
    → target b r ≡ cond (nat_le (length (pieces (merge b r))) max_segments)
    (Some (target_of b.scheme b.authority (dots_removed (merge b r)) r.query r.fragment)) None
target_merged b r h e k = target_else b r h ∙ ap (λ v. chosen false false v (is_rooted (text r.path)) b r) e ∙ ap (λ v. chosen false false false v b r) k

-- ---- an empty path

pub several : (p : PathParts) → 1 < length p.segments → is_empty (text p) ≡ false
several p h = by_shape p.absolute p.segments h
  where
    by_shape : (a : Bool) (l : List (List ℕ)) → 1 < length l → is_empty (text (make a l)) ≡ false
    by_shape true l h = refl
    by_shape false [] h = absurd (omega (arith, h))
    by_shape false (s ∷ []) h = absurd (omega (arith, h))
    by_shape false ([] ∷ r ∷ l) h = refl
    by_shape false ((b ∷ s) ∷ r ∷ l) h = refl

-- ---- a path without dot segments, in its place

without_dots-text : (v : Bool) (q : PathParts) → Fits v q → without_dots q ≡ dots_removed (text q)
without_dots-text v q is = by_dots (has_dot_segment q.segments) refl
  where
    by_dots : (d : Bool) → has_dot_segment q.segments ≡ d → cond d (dots_removed (text q)) q ≡ dots_removed (text q)
    by_dots true e = refl
    by_dots false e = sym (dots_removed-text q is.listed ∙ undotted_kept q e ∙ is.formed)

-- after an authority it is unchanged
in_place : (a : Option AuthorityParts) (w : Bool) (q m : PathParts) → w ≡ is_some a → q ≡ m → cond w q (with_dot_prefix q) ≡ dot_prefixed a m
in_place (Some a) w q m e f = ap (λ v. cond v q (with_dot_prefix q)) e ∙ f
in_place None w q m e f = ap (λ v. cond v q (with_dot_prefix q)) e ∙ ap with_dot_prefix f

pub flipped : (w : Bool) (q : PathParts) → cond (not w) (with_dot_prefix q) q ≡ cond w q (with_dot_prefix q)
flipped true q = refl
flipped false q = refl

-- ---- the result for the target's path

answered : (result : Result PathParts PathError) (made path : PathParts) → MatchResult result (λ p. p ≡ made) (λ e. e ≡ OutOfMemory) → made ≡ path
    → IsUnless OutOfMemory result (Ok path)
answered (Ok p) made path is e = inl (ap Ok (is ∙ e))
answered (Err x) made path is e = inr (ap Err is)

-- the path of a reference without a scheme and an authority
alone : (r : Parts) → Valid r → has_front r ≡ false → Fits false r.path
alone r v h = subst (λ w. Fits w r.path) (or_parts (is_some r.scheme) (is_some r.authority) h).1 (fits_of r v)

-- ---- the target's components, whatever its path

abbrev make_of : Option Scheme → Option AuthorityParts → PathParts → Option (List ℕ) → Option (List ℕ) → Parts
make_of s a p q f = record { scheme = s; authority = a; path = p; query = q; fragment = f }

-- The target, if there is one, has these components, and the path that is given unless memory ran out.
abbrev pub IsTarget : Option Parts → Option Scheme → Option AuthorityParts → Option (List ℕ) → Option (List ℕ) → Result PathParts PathError → Type 0
IsTarget o s a q f given =
    MatchOption o (given ≡ Err ExceededMaximumLength) (λ t. IsUnless OutOfMemory given (Ok t.path) × (t ≡ make_of s a t.path q f))

with_parts : (s u : Option Scheme) (a c : Option AuthorityParts) (q d : Option (List ℕ)) (p : PathParts) (f : Option (List ℕ)) → s ≡ u → a ≡ c → q ≡ d
    → make_of u c p d f ≡ make_of s a p q f
with_parts s u a c q d p f e g h =
    sym (ap (λ x. make_of x a p q f) e ∙ ap (λ x. make_of u x p q f) g ∙ ap (λ x. make_of u c p x f) h)

module _ (b r : Parts) (s : Option Scheme) (a : Option AuthorityParts) (q : Option (List ℕ)) (given : Result PathParts PathError) where
  module _ (w : Bool) (own : PathParts) (same : own ≡ r.path) (valid : Valid r)
      (is : MatchResult given (λ p. p ≡ cond w (without_dots own) (with_dot_prefix (without_dots own))) (λ e. e ≡ OutOfMemory)) where
    -- the reference's own path
    own_path : (u : Option Scheme) (c : Option AuthorityParts) → w ≡ is_some c → s ≡ u → a ≡ c → q ≡ r.query
        → IsTarget (Some (target_of u c (dots_removed (text r.path)) r.query r.fragment)) s a q r.fragment given
    own_path u c e f g h = (
      answered given (cond w (without_dots own) (with_dot_prefix (without_dots own))) (dot_prefixed c (dots_removed (text r.path))) is
          (in_place c w (without_dots own) (dots_removed (text r.path)) e
          (ap without_dots same ∙ without_dots-text (is_some r.authority) r.path (fits_of r valid))),
      with_parts s u a c q r.query (dot_prefixed c (dots_removed (text r.path))) r.fragment f g h,
    )

    pub scheme_target : is_some r.scheme ≡ true → w ≡ is_some r.authority → s ≡ r.scheme → a ≡ r.authority → q ≡ r.query → IsTarget (target b r) s a q r.fragment given
    scheme_target h e f g k =
        subst (λ o. IsTarget o s a q r.fragment given) (sym (ap (λ v. chosen v (is_some r.authority) (is_empty (text r.path)) (is_rooted (text r.path)) b r) h))
        (own_path r.scheme r.authority e f g k)

    pub authority_target : is_some r.scheme ≡ false → is_some r.authority ≡ true → w ≡ true → s ≡ b.scheme → a ≡ r.authority → q ≡ r.query → IsTarget (target b r) s a q r.fragment given
    authority_target h i e f g k =
        subst (λ o. IsTarget o s a q r.fragment given) (sym (ap (λ v. chosen v (is_some r.authority) (is_empty (text r.path)) (is_rooted (text r.path)) b r) h
        ∙ ap (λ v. chosen false v (is_empty (text r.path)) (is_rooted (text r.path)) b r) i))
        (own_path b.scheme r.authority (e ∙ sym i) f g k)

    pub rooted_target : has_front r ≡ false → is_empty (text r.path) ≡ false → own.absolute ≡ true → w ≡ is_some b.authority → s ≡ b.scheme
        → a ≡ b.authority → q ≡ r.query → IsTarget (target b r) s a q r.fragment given
    rooted_target h k i e f g l =
        let fits = fits_of r valid in
        let rooted : is_rooted (text r.path) ≡ true = rooted_formed r.path fits.listed fits.formed ∙ sym (ap (λ p. p.absolute) same) ∙ i in
        subst (λ o. IsTarget o s a q r.fragment given) (sym (target_rooted b r h k rooted)) (own_path b.scheme b.authority e f g l)

  pub kept_target : (inherited : PathParts) → inherited ≡ b.path → Valid b → has_front r ≡ false → is_empty (text r.path) ≡ true
      → MatchResult given (λ p. p ≡ inherited) (λ e. e ≡ OutOfMemory) → s ≡ b.scheme → a ≡ b.authority → q ≡ option_or r.query b.query → IsTarget (target b r) s a q r.fragment given
  kept_target inherited same valid h k is f g l =
      subst (λ o. IsTarget o s a q r.fragment given) (sym (target_kept b r h k)) (
        answered given inherited (dot_prefixed b.authority b.path) is (same ∙ sym (shielded_fits b.authority b.path (fits_of b valid))),
        with_parts s b.scheme a b.authority q (option_or r.query b.query) (dot_prefixed b.authority b.path) r.fragment f g l,
      )

-- ---- the case of merged paths

module _ (b r : Parts) (p q : PathParts) (base : p ≡ b.path) (own : q ≡ r.path) (valid_base : Valid b) (valid : Valid r) (front : has_front r ≡ false)
    (some : is_empty (text r.path) ≡ false) (relative : q.absolute ≡ false) where
  not_rooted : is_rooted (text r.path) ≡ false
  not_rooted = let fits = alone r valid front in rooted_formed r.path fits.listed fits.formed ∙ sym (ap (λ p. p.absolute) own) ∙ relative

  js : IsFollowing r.path
  js = following r.path (alone r valid front) not_rooted

  is : Fits (is_some b.authority) b.path
  is = fits_of b valid_base

  length_is : length (pieces (merge b r)) ≡ length (merged b.path r.path).segments
  length_is = ap (λ m. length m.segments) (merged_spelled (is_some b.authority) b.path r.path is js)

  -- both by whether there are too many segments
  target_is : (z : Bool) → nat_le (length (merged b.path r.path).segments) max_segments ≡ z
      → target b r ≡ cond z (Some (target_of b.scheme b.authority (dots_removed (merge b r)) r.query r.fragment)) None
  target_is z e =
      target_merged b r front some not_rooted
      ∙ ap (λ v. cond {A = Option Parts} v (Some (target_of b.scheme b.authority (dots_removed (merge b r)) r.query r.fragment)) None)
      (ap (λ n. nat_le n max_segments) length_is ∙ e)

  merging_is : (z : Bool) → nat_le (length (merged b.path r.path).segments) max_segments ≡ z
      → merging p q ≡ cond z (Ok (merged b.path r.path)) (Err ExceededMaximumLength)
  merging_is z e = ap (λ x. merging x q) base ∙ ap (λ x. merging b.path x) own
      ∙ ap (λ v. cond {A = Result PathParts PathError} v (Ok (merged b.path r.path)) (Err ExceededMaximumLength)) e

  pub merged_shown : (w : Bool) → w ≡ is_some b.authority → w ≡ false → IfOk (merging p q) (λ m. starts_with_empty_segment m.segments ≡ false)
  merged_shown w e none = by_room (nat_le (length (merged b.path r.path).segments) max_segments) refl
    where
      by_room : (z : Bool) → nat_le (length (merged b.path r.path).segments) max_segments ≡ z → IfOk (merging p q) (λ m. starts_with_empty_segment m.segments ≡ false)
      by_room true k =
          subst (λ x. IfOk x (λ m. starts_with_empty_segment m.segments ≡ false)) (sym (merging_is true k))
          ((fits_merged (is_some b.authority) b.path r.path is js (le_from _ _ k)).shown (sym e ∙ none))
      by_room false k = subst (λ x. IfOk x (λ m. starts_with_empty_segment m.segments ≡ false)) (sym (merging_is false k)) tt

  pub merged_target : (s : Option Scheme) (a : Option AuthorityParts) (query : Option (List ℕ)) (given : Result PathParts PathError) (w : Bool)
      → MatchResult (merging p q) (λ m. IsUnless OutOfMemory given (Ok (cond w (without_dots m) (with_dot_prefix (without_dots m))))) (λ e. given ≡ Err e)
      → w ≡ is_some b.authority → s ≡ b.scheme → a ≡ b.authority → query ≡ r.query → IsTarget (target b r) s a query r.fragment given
  merged_target s a query given w answer e f g l = by_room (nat_le (length (merged b.path r.path).segments) max_segments) refl
    where
      by_room : (z : Bool) → nat_le (length (merged b.path r.path).segments) max_segments ≡ z → IsTarget (target b r) s a query r.fragment given
      by_room true k =
          let short : length (merged b.path r.path).segments ≤ max_segments = le_from _ _ k in
          let fits = fits_merged (is_some b.authority) b.path r.path is js short in
          let bare : without_dots (merged b.path r.path) ≡ dots_removed (merge b r) =
          without_dots-text (is_some b.authority) (merged b.path r.path) fits
          ∙ dots_removed-text (merged b.path r.path) fits.listed
          ∙ sym (dots_removed-merged (is_some b.authority) b.path r.path is js short) in
          let m = merged b.path r.path in
          let made = in_place b.authority w (without_dots m) (dots_removed (merge b r)) e bare in
          subst (λ o. IsTarget o s a query r.fragment given) (sym (target_is true k)) (
            subst (λ p. IsUnless OutOfMemory given (Ok p)) made
                (subst (λ x. MatchResult x (λ m. IsUnless OutOfMemory given (Ok (cond w (without_dots m) (with_dot_prefix (without_dots m))))) (λ e. given ≡ Err e))
                (merging_is true k) answer),
            with_parts s b.scheme a b.authority query r.query (dot_prefixed b.authority (dots_removed (merge b r))) r.fragment f g l,
          )
      by_room false k =
          subst (λ o. IsTarget o s a query r.fragment given) (sym (target_is false k))
          (subst (λ x. MatchResult x (λ m. IsUnless OutOfMemory given (Ok (cond w (without_dots m) (with_dot_prefix (without_dots m))))) (λ e. given ≡ Err e))
          (merging_is false k) answer)

-- ---- a merged path, as it was made

pub made_of : (given m : Result PathParts PathError) (path : PathParts) → given ≡ Ok path → IsUnless OutOfMemory given m → m ≡ Ok path
made_of given m path was answer =
    ⊎_elim (λ e. sym e ∙ was) (λ bad. absurd (let worse : ◌≡◌ {A = Result PathParts PathError} (Ok path) (Err OutOfMemory) = sym was ∙ bad in cc)) answer

pub merged_made : (given m : Result PathParts PathError) (path : PathParts) (w : Bool) (new : PathParts) → given ≡ Ok path → IsUnless OutOfMemory given m
    → new ≡ cond w (without_dots path) (with_dot_prefix (without_dots path))
    → MatchResult m (λ p. IsUnless OutOfMemory (Ok new) (Ok (cond w (without_dots p) (with_dot_prefix (without_dots p)))))
    (λ e. ◌≡◌ {A = Result PathParts PathError} (Ok new) (Err e))
merged_made given m path w new was answer is =
    subst (λ x. MatchResult x (λ p. IsUnless OutOfMemory (Ok new) (Ok (cond w (without_dots p) (with_dot_prefix (without_dots p)))))
    (λ e. ◌≡◌ {A = Result PathParts PathError} (Ok new) (Err e)))
    (sym (made_of given m path was answer)) (inl (ap Ok is))

pub not_true : (v : Bool) → not v ≡ true → v ≡ false
not_true true h = absurd (false≢true h)
not_true false h = refl

pub not_made : (m given : Result PathParts PathError) (x : PathError) (result : Result PathParts PathError) (make : PathParts → PathParts)
    → IsUnless OutOfMemory given m → IfErr m (λ e. given ≡ Err e) → given ≡ Err x → result ≡ Err x
    → MatchResult m (λ p. IsUnless OutOfMemory result (Ok (make p))) (λ e. result ≡ Err e)
not_made (Ok p) given x result make answer fault was same =
    ⊎_elim (λ ok. absurd (let bad : ◌≡◌ {A = Result PathParts PathError} (Err x) (Ok p) = sym was ∙ ok in cc)) (λ bad. inr (same ∙ sym was ∙ bad)) answer
not_made (Err e) given x result make answer fault was same = same ∙ sym was ∙ fault

-- ---- the result

-- the result for this target
abbrev pub IsResult : Option Parts → Result Parts URIReferenceError → Type 0
IsResult o result =
    MatchOption o (result ≡ Err (errors.Path ExceededMaximumLength)) (λ t. IsUnless (errors.Path OutOfMemory) result (Ok t))

module _ (b r : Parts) (s : Option Scheme) (a : Option AuthorityParts) (q : Option (List ℕ)) (given : Result PathParts PathError)
    (is : IsTarget (target b r) s a q r.fragment given) where
  module _ (p : PathParts) (was : given ≡ Ok p) where
    pub resolved : target b r ≡ Some (make_of s a p q r.fragment)
    resolved = by_target (target b r) (subst (IsTarget (target b r) s a q r.fragment) was is)
      where
        by_target : (o : Option Parts) → IsTarget o s a q r.fragment (Ok p) → o ≡ Some (make_of s a p q r.fragment)
        by_target None k = absurd (let bad : ◌≡◌ {A = Result PathParts PathError} (Ok p) (Err ExceededMaximumLength) = k in cc)
        by_target (Some t) k =
            let same : p ≡ t.path = ⊎_elim (λ e. cc) (λ bad. absurd (cc)) k.0 in
            ap Some (k.1 ∙ sym (ap (λ x. make_of s a x q r.fragment) same))

    pub resolved_valid : Valid b → Valid r → is_some b.scheme ≡ true → Valid (make_of s a p q r.fragment)
    resolved_valid v w h = subst (λ o. IfSome o Valid) resolved (target_valid b r v w h)

    pub resolved_answer : IsResult (target b r) (Ok (make_of s a p q r.fragment))
    resolved_answer = subst (λ o. IsResult o (Ok (make_of s a p q r.fragment))) (sym resolved) (inl refl)

  pub refused_answer : (x : PathError) (result : Result Parts URIReferenceError) → given ≡ Err x → result ≡ Err (errors.Path x) → IsResult (target b r) result
  refused_answer x result was same = by_target (target b r) is
    where
      by_target : (o : Option Parts) → IsTarget o s a q r.fragment given → IsResult o result
      by_target None k = let e : x ≡ ExceededMaximumLength = cc in same ∙ ap (λ u. Err (errors.Path u)) e
      by_target (Some t) k =
          ⊎_elim
          (λ ok. absurd (let bad : Err x ≡ Ok t.path = sym was ∙ ok in cc))
          (λ bad. let e : x ≡ OutOfMemory = cc in inr (same ∙ ap (λ u. Err (errors.Path u)) e)) k.0
