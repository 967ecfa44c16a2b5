-- The normal form of a relative path's segments: which lists are their own normal form, and its length.
use Rattle.std.proofs.Common.{◌≡◌, ◌↔◌, ℕ, ◌<◌, Bool, true, false, not, cond, List, [], ◌∷◌, ◌++◌, length, map, refl, sym, ap, ◌∙◌, arith}
use Rattle.std.proofs.Common.{◌&&◌, ◌||◌}
use Rattle.std.specs.Prelude.{reverse}
use Rattle.std.specs.List.{list_all}
use Rattle.std.proofs.lemmas.Bool.{false≢true, not-true, and_parts, and_from, or_parts, or_left}
use Rattle.std.proofs.lemmas.List.{reverse-append}
use Rattle.std.proofs.lemmas.List.Folds.{list_all-append, list_any-append}
use Rattle.std.proofs.lemmas.Slice.Eq.{bytes_eq-Decides}
use Rattle.uriparse_text.specs.Bytes.{dot}
use Rattle.uriparse_text.specs.Bytes.{is_unreserved}
use Rattle.uriparse_text.specs.Classes.{is_plain}
use Rattle.uriparse_text.specs.Tokens.{tokens}
use Rattle.uriparse_text.specs.Canonical.{canonical}
use Rattle.uriparse_text.specs.declared.internal.class.Class.TheVariants.{Segment}
use Rattle.uriparse_text.specs.declared.internal.token.Case.TheVariants.{Kept}
use Rattle.uriparse_text.proofs.lemmas.canonical.CanonicalLemmas.{canonical_in-canonical_in}
use Rattle.uriparse_text.proofs.lemmas.classes.ClassLemmas.{well_formed-in_class}
use Rattle.uriparse_text.specs.Segment.{is_segment}
use Rattle.uriparse_path.specs.Path.{starts_with_empty_segment}
use Rattle.uriparse_path.specs.Dots.{is_single_dot, is_double_dot, is_dot_segment, has_dot_segment}
use Rattle.uriparse_path.specs.Relative.{single, pair, done, IsIrreducible, is_last, is_first, closed, has_colon, needs_leading_dot, with_leading_dot}
use Rattle.uriparse_path.specs.Relative.{filled, put, put_all, reduced, relative_normal}
use Rattle.uriparse_path.specs.Normal.{is_canonical, begins_with_double_dots, has_needed_leading_dot}
use Rattle.uriparse_text.proofs.lemmas.canonical.DotLemmas.{empty_double, empty_no_dot, canonical-dot, single_is, empty_segment}
use Rattle.uriparse_path.proofs.lemmas.dots.DotSegmentLemmas.{not_both, neither, no_dot, single_dot, double_dot, dot_single}
use Rattle.uriparse_path.proofs.lemmas.dots.DotSegmentLemmas.{single-canonical, double-canonical, dot-canonical, canonical-empty, has_colon-canonical}
use Rattle.uriparse_text.proofs.lemmas.canonical.DotLemmas.{canonical-nil}
use Rattle.uriparse_path.proofs.lemmas.text.CanonicalTextLemmas.{each-canonical, length-canonical}
use Rattle.uriparse_path.proofs.lemmas.normal.DeletionLemmas.{leads_iff}

-- ---- lists from which nothing is deleted

has_dot-inside : (before after : List (List ℕ)) (d : List ℕ) → is_dot_segment d ≡ true → has_dot_segment (before ++ d ∷ after) ≡ true
has_dot-inside [] after d h = rw h refl
has_dot-inside (s ∷ before) after d h =
    rw (has_dot-inside before after d h) (elim (is_dot_segment s) as (λ v. (v || true) ≡ true) [ true ↦ refl | false ↦ refl ])

double_dots-double : (s : List ℕ) (ss : List (List ℕ)) → is_double_dot s ≡ true → begins_with_double_dots (s ∷ ss) ≡ begins_with_double_dots ss
double_dots-double s ss h = rw h refl

double_dots-other : (s : List ℕ) (ss : List (List ℕ)) → is_double_dot s ≡ false → begins_with_double_dots (s ∷ ss) ≡ not (has_dot_segment (s ∷ ss))
double_dots-other s ss h = rw h refl

no_single : (before after : List (List ℕ)) (d : List ℕ) → is_single_dot d ≡ true → begins_with_double_dots (before ++ d ∷ after) ≡ true → ⊥
no_single [] after d h k =
    let other : is_double_dot d ≡ false = by_double (is_double_dot d) refl in
    false≢true (sym (double_dots-other d after other ∙ ap not (has_dot-inside [] after d (single_dot d h))) ∙ k)
  where
    by_double : (v : Bool) → is_double_dot d ≡ v → v ≡ false
    by_double true e = absurd (false≢true (sym (not_both d e) ∙ h))
    by_double false e = refl
no_single (s ∷ before) after d h k = by_double (is_double_dot s) refl (no_single before after d h)
  where
    by_double : (v : Bool) → is_double_dot s ≡ v → (begins_with_double_dots (before ++ d ∷ after) ≡ true → ⊥) → ⊥
    by_double true e g = g (sym (double_dots-double s (before ++ d ∷ after) e) ∙ k)
    by_double false e g = false≢true (sym (double_dots-other s (before ++ d ∷ after) e ∙ ap not (has_dot-inside (s ∷ before) after d (single_dot d h))) ∙ k)

no_pair : (before after : List (List ℕ)) (s d : List ℕ) → is_dot_segment s ≡ false → is_double_dot d ≡ true → begins_with_double_dots (before ++ s ∷ d ∷ after) ≡ true → ⊥
no_pair [] after s d h e k = false≢true (sym (double_dots-other s (d ∷ after) (neither s h).1 ∙ ap not (has_dot-inside (s ∷ []) after d (double_dot d e))) ∙ k)
no_pair (r ∷ before) after s d h e k = by_double (is_double_dot r) refl (no_pair before after s d h e)
  where
    by_double : (v : Bool) → is_double_dot r ≡ v → (begins_with_double_dots (before ++ s ∷ d ∷ after) ≡ true → ⊥) → ⊥
    by_double true f g = g (sym (double_dots-double r (before ++ s ∷ d ∷ after) f) ∙ k)
    by_double false f g =
        let inside : has_dot_segment (r ∷ before ++ s ∷ d ∷ after) ≡ true =
        rw (has_dot-following before) (elim (is_dot_segment r) as (λ v. (v || true) ≡ true) [ true ↦ refl | false ↦ refl ]) in
        false≢true (sym (double_dots-other r (before ++ s ∷ d ∷ after) f ∙ ap not inside) ∙ k)
      where
        has_dot-following : (b : List (List ℕ)) → has_dot_segment (b ++ s ∷ d ∷ after) ≡ true
        has_dot-following [] = rw (h, double_dot d e) refl
        has_dot-following (q ∷ b) = rw (has_dot-following b) (elim (is_dot_segment q) as (λ v. (v || true) ≡ true) [ true ↦ refl | false ↦ refl ])

irreducible_of : (l : List (List ℕ)) → begins_with_double_dots l ≡ true → IsIrreducible l
irreducible_of l h m (single before after d e f g) = no_single before after d e (sym (ap begins_with_double_dots f) ∙ h)
irreducible_of l h m (pair before after s d e f g k) = no_pair before after s d e f (sym (ap begins_with_double_dots g) ∙ h)

irreducible_tail : (s : List ℕ) (ss : List (List ℕ)) → IsIrreducible (s ∷ ss) → IsIrreducible ss
irreducible_tail s ss h m (single before after d e f g) = h (s ∷ m) (single (s ∷ before) after d e (ap (λ u. s ∷ u) f) (ap (λ u. s ∷ u) g))
irreducible_tail s ss h m (pair before after r d e f g k) = h (s ∷ m) (pair (s ∷ before) after r d e f (ap (λ u. s ∷ u) g) (ap (λ u. s ∷ u) k))

double_dots_of : (l : List (List ℕ)) → IsIrreducible l → begins_with_double_dots l ≡ true
double_dots_of [] h = refl
double_dots_of (s ∷ ss) h = by_kind (is_single_dot s) refl (is_double_dot s) refl (double_dots_of ss (irreducible_tail s ss h))
  where
    following : (rs : List (List ℕ)) → IsIrreducible (s ∷ rs) → is_dot_segment s ≡ false → begins_with_double_dots rs ≡ true → not (has_dot_segment (s ∷ rs)) ≡ true
    following [] g e k = rw e refl
    following (r ∷ rs) g e k = by_double (is_double_dot r) refl
      where
        by_double : (w : Bool) → is_double_dot r ≡ w → not (has_dot_segment (s ∷ r ∷ rs)) ≡ true
        by_double true f = absurd (g rs (pair [] rs s r e f refl refl))
        by_double false f = rw e (sym (double_dots-other r rs f) ∙ k)

    by_kind : (v : Bool) → is_single_dot s ≡ v → (w : Bool) → is_double_dot s ≡ w → begins_with_double_dots ss ≡ true → begins_with_double_dots (s ∷ ss) ≡ true
    by_kind true e w f k = absurd (h ss (single [] ss s e refl refl))
    by_kind false e true f k = double_dots-double s ss f ∙ k
    by_kind false e false f k = double_dots-other s ss f ∙ following ss h (no_dot s e f) k

-- nothing can be deleted exactly if ".." segments come first and no dot segment follows
pub irreducible_iff : (l : List (List ℕ)) → IsIrreducible l ↔ (begins_with_double_dots l ≡ true)
irreducible_iff l = (double_dots_of l, irreducible_of l)

reduced_kept : (l : List (List ℕ)) → begins_with_double_dots l ≡ true → reduced l ≡ l
reduced_kept l h = sym ((leads_iff l l).0 (done, irreducible_of l h))

pub reduced_double_dots : (l : List (List ℕ)) → begins_with_double_dots (reduced l) ≡ true
reduced_double_dots l = double_dots_of (reduced l) ((leads_iff l (reduced l)).1 refl).1

-- ---- canonical spelling changes no test

pub canonical_same : (s : List ℕ) → is_canonical s ≡ true → canonical s ≡ s
canonical_same s h = (bytes_eq-Decides (canonical s) s).0 h

pub all_canonical_same : (l : List (List ℕ)) → list_all is_canonical l ≡ true → map canonical l ≡ l
all_canonical_same [] h = refl
all_canonical_same (s ∷ l) h = let both = and_parts _ _ h in rw (canonical_same s both.0, all_canonical_same l both.1) refl

pub canonical-canonical : (s : List ℕ) → is_segment s ≡ true → canonical (canonical s) ≡ canonical s
canonical-canonical s h = canonical_in-canonical_in Kept s (well_formed-in_class Segment s h)

pub all_canonical-canonical : (l : List (List ℕ)) → list_all is_segment l ≡ true → list_all is_canonical (map canonical l) ≡ true
all_canonical-canonical [] h = refl
all_canonical-canonical (s ∷ l) h = let both = and_parts _ _ h in
    and_from _ _ ((bytes_eq-Decides (canonical (canonical s)) (canonical s)).1 (canonical-canonical s both.0)) (all_canonical-canonical l both.1)

pub has_dot-canonical : (l : List (List ℕ)) → list_all is_segment l ≡ true → has_dot_segment (map canonical l) ≡ has_dot_segment l
has_dot-canonical [] h = refl
has_dot-canonical (s ∷ l) h = let both = and_parts _ _ h in rw (dot-canonical s both.0, has_dot-canonical l both.1) refl

double_dots-canonical : (l : List (List ℕ)) → list_all is_segment l ≡ true → begins_with_double_dots (map canonical l) ≡ begins_with_double_dots l
double_dots-canonical [] h = refl
double_dots-canonical (s ∷ l) h =
    let both = and_parts _ _ h in
    rw (double-canonical s both.0, single-canonical s both.0, double_dots-canonical l both.1, has_dot-canonical l both.1) refl

pub hides-canonical : (l : List (List ℕ)) → starts_with_empty_segment (map canonical l) ≡ starts_with_empty_segment l
hides-canonical [] = refl
hides-canonical ([] ∷ []) = rw canonical-nil refl
hides-canonical ([] ∷ r ∷ l) = rw canonical-nil refl
hides-canonical ((b ∷ s) ∷ l) = by_text (canonical (b ∷ s)) refl (map canonical l)
  where
    by_text : (u : List ℕ) → canonical (b ∷ s) ≡ u → (k : List (List ℕ)) → starts_with_empty_segment (u ∷ k) ≡ false
    by_text [] e k = let no : b ∷ s ≡ [] = canonical-empty (b ∷ s) e in cc
    by_text (c ∷ u) e k = refl

pub first_colon-canonical : (l : List (List ℕ)) → is_first has_colon (map canonical l) ≡ is_first has_colon l
first_colon-canonical [] = refl
first_colon-canonical (s ∷ l) = has_colon-canonical s

pub truncate_with_leading_dot-canonical : (old new : List (List ℕ)) → needs_leading_dot (map canonical old) (map canonical new) ≡ needs_leading_dot old new
truncate_with_leading_dot-canonical old new = rw (hides-canonical new, first_colon-canonical new, first_colon-canonical old) refl

with_leading_dot-canonical : (l : List (List ℕ)) → list_all is_segment l ≡ true → has_needed_leading_dot (map canonical l) ≡ has_needed_leading_dot l
with_leading_dot-canonical [] h = refl
with_leading_dot-canonical (s ∷ l) h =
    let both = and_parts _ _ h in
    rw (single-canonical s both.0, double_dots-canonical l both.1) (ap (λ v. is_single_dot s && begins_with_double_dots l && v) (truncate_with_leading_dot-canonical (s ∷ l) l))

-- ---- each normal form passes the test

double_dots_push : (l : List (List ℕ)) → begins_with_double_dots l ≡ true → begins_with_double_dots (l ++ [] ∷ []) ≡ true
double_dots_push [] h = double_dots-other [] [] empty_double ∙ ap (λ v. not (v || false)) empty_no_dot
double_dots_push (s ∷ l) h = by_double (is_double_dot s) refl (double_dots_push l)
  where
    by_double : (v : Bool) → is_double_dot s ≡ v → (begins_with_double_dots l ≡ true → begins_with_double_dots (l ++ [] ∷ []) ≡ true) → begins_with_double_dots ((s ∷ l) ++ [] ∷ []) ≡ true
    by_double true e g = double_dots-double s (l ++ [] ∷ []) e ∙ g (sym (double_dots-double s l e) ∙ h)
    by_double false e g =
        let none : has_dot_segment (s ∷ l) ≡ false = not-true (has_dot_segment (s ∷ l)) (sym (double_dots-other s l e) ∙ h) in
        let still : has_dot_segment ((s ∷ l) ++ [] ∷ []) ≡ false = list_any-append is_dot_segment (s ∷ l) ([] ∷ []) ∙ rw (none, empty_no_dot) refl in
        double_dots-other s (l ++ [] ∷ []) e ∙ ap not still

double_dots_closed : (ended : Bool) (l : List (List ℕ)) → begins_with_double_dots l ≡ true → begins_with_double_dots (closed ended l) ≡ true
double_dots_closed ended [] h = refl
double_dots_closed ended (s ∷ l) h = by_test (ended && not (is_last is_double_dot (s ∷ l)))
  where
    by_test : (v : Bool) → begins_with_double_dots (cond v ((s ∷ l) ++ [] ∷ []) (s ∷ l)) ≡ true
    by_test true = double_dots_push (s ∷ l) h
    by_test false = h

-- the test of lists that are their own normal form, except for their spelling
abbrev pub is_canonical_byte : List (List ℕ) → Bool
is_canonical_byte l = begins_with_double_dots l || has_needed_leading_dot l

leading_dot_again : (old new : List (List ℕ)) → needs_leading_dot old new ≡ true → needs_leading_dot ((dot ∷ []) ∷ new) new ≡ true
leading_dot_again old new h = by_tests (starts_with_empty_segment new) (is_first has_colon new) (not (is_first has_colon old)) h
  where
    by_tests : (a b c : Bool) → (a || (b && c)) ≡ true → (a || (b && true)) ≡ true
    by_tests true b c h = refl
    by_tests false true c h = refl
    by_tests false false c h = h

or_right : (a b : Bool) → b ≡ true → (a || b) ≡ true
or_right true b h = refl
or_right false b h = h

double_dots_filled : (l : List (List ℕ)) → begins_with_double_dots l ≡ true → begins_with_double_dots (filled l) ≡ true
double_dots_filled [] h = double_dots_push [] refl
double_dots_filled (s ∷ l) h = h

settled_guarded : (old new : List (List ℕ)) → begins_with_double_dots new ≡ true → is_canonical_byte (filled (with_leading_dot old new)) ≡ true
settled_guarded old new h = by_leading_dot (needs_leading_dot old new) refl
  where
    by_leading_dot : (v : Bool) → needs_leading_dot old new ≡ v → is_canonical_byte (filled (cond v ((dot ∷ []) ∷ new) new)) ≡ true
    by_leading_dot true e = or_right (begins_with_double_dots ((dot ∷ []) ∷ new)) (has_needed_leading_dot ((dot ∷ []) ∷ new))
        (and_from _ _ (and_from _ _ dot_single h) (leading_dot_again old new e))
    by_leading_dot false e = or_left (begins_with_double_dots (filled new)) (has_needed_leading_dot (filled new)) (double_dots_filled new h)

-- what is there before its spelling is normalized
abbrev pub shaped : List (List ℕ) → List (List ℕ)
shaped l = filled (with_leading_dot l (closed (is_last is_dot_segment l) (reduced l)))

pub relative_is : (l : List (List ℕ)) → relative_normal l ≡ map canonical (shaped l)
unfolding relative_normal
relative_is l = refl

settled_shaped : (l : List (List ℕ)) → is_canonical_byte (shaped l) ≡ true
settled_shaped l = settled_guarded l (closed (is_last is_dot_segment l) (reduced l)) (double_dots_closed (is_last is_dot_segment l) (reduced l) (reduced_double_dots l))

-- no normal form begins with an empty segment that has followers
hides_shaped : (l : List (List ℕ)) → starts_with_empty_segment (shaped l) ≡ false
hides_shaped l = by_leading_dot (needs_leading_dot l (closed (is_last is_dot_segment l) (reduced l))) (closed (is_last is_dot_segment l) (reduced l)) refl
  where
    hides_filled : (c : List (List ℕ)) → starts_with_empty_segment c ≡ false → starts_with_empty_segment (filled c) ≡ false
    hides_filled [] h = refl
    hides_filled (s ∷ c) h = h

    by_leading_dot : (v : Bool) (c : List (List ℕ)) → needs_leading_dot l c ≡ v → starts_with_empty_segment (filled (cond v ((dot ∷ []) ∷ c) c)) ≡ false
    by_leading_dot true c e = refl
    by_leading_dot false c e = hides_filled c (or_parts (starts_with_empty_segment c) (is_first has_colon c && not (is_first has_colon l)) e).0

pub hides_relative : (l : List (List ℕ)) → starts_with_empty_segment (relative_normal l) ≡ false
hides_relative l = ap starts_with_empty_segment (relative_is l) ∙ hides-canonical (shaped l) ∙ hides_shaped l

-- ---- what holds of each segment, of the empty one and of "." holds of those of a normal form

module _ (p : List ℕ → Bool) (empty : p [] ≡ true) (truncate_with_leading_dot : p (dot ∷ []) ≡ true) where
  pub all_put : (stack : List (List ℕ)) (s : List ℕ) → list_all p stack ≡ true → p s ≡ true → list_all p (put stack s) ≡ true
  all_put [] s h k = by_single (is_single_dot s)
    where
      by_single : (v : Bool) → list_all p (cond v [] (s ∷ [])) ≡ true
      by_single true = refl
      by_single false = and_from _ _ k refl
  all_put (t ∷ stack) s h k = by_kind (is_single_dot s) (is_double_dot s && not (is_dot_segment t))
    where
      by_kind : (v w : Bool) → list_all p (cond v (t ∷ stack) (cond w stack (s ∷ t ∷ stack))) ≡ true
      by_kind true w = h
      by_kind false true = (and_parts _ _ h).1
      by_kind false false = and_from _ _ k h

  pub all_put_all : (stack l : List (List ℕ)) → list_all p stack ≡ true → list_all p l ≡ true → list_all p (put_all stack l) ≡ true
  all_put_all stack [] h k = h
  all_put_all stack (s ∷ l) h k = let both = and_parts _ _ k in all_put_all (put stack s) l (all_put stack s h both.0) both.1

  all-append : (a b : List (List ℕ)) → list_all p a ≡ true → list_all p b ≡ true → list_all p (a ++ b) ≡ true
  all-append a b h k = list_all-append p a b ∙ and_from _ _ h k

  pub all-reverse : (l : List (List ℕ)) → list_all p l ≡ true → list_all p (reverse l) ≡ true
  all-reverse [] h = refl
  all-reverse (s ∷ l) h =
      let both = and_parts _ _ h in
      ap (list_all p) (reverse-append (s ∷ []) l) ∙ all-append (reverse l) (s ∷ []) (all-reverse l both.1) (and_from _ _ both.0 refl)

  all_closed : (ended : Bool) (l : List (List ℕ)) → list_all p l ≡ true → list_all p (closed ended l) ≡ true
  all_closed ended [] h = refl
  all_closed ended (s ∷ l) h = by_test (ended && not (is_last is_double_dot (s ∷ l)))
    where
      by_test : (v : Bool) → list_all p (cond v ((s ∷ l) ++ [] ∷ []) (s ∷ l)) ≡ true
      by_test true = all-append (s ∷ l) ([] ∷ []) h (and_from _ _ empty refl)
      by_test false = h

  all_filled : (l : List (List ℕ)) → list_all p l ≡ true → list_all p (filled l) ≡ true
  all_filled [] h = and_from _ _ empty refl
  all_filled (s ∷ l) h = h

  all_guarded : (old new : List (List ℕ)) → list_all p new ≡ true → list_all p (with_leading_dot old new) ≡ true
  all_guarded old new h = by_leading_dot (needs_leading_dot old new)
    where
      by_leading_dot : (v : Bool) → list_all p (cond v ((dot ∷ []) ∷ new) new) ≡ true
      by_leading_dot true = and_from _ _ truncate_with_leading_dot h
      by_leading_dot false = h

  pub all_shaped : (l : List (List ℕ)) → list_all p l ≡ true → list_all p (shaped l) ≡ true
  all_shaped l h =
      let c = closed (is_last is_dot_segment l) (reduced l) in
      all_filled (with_leading_dot l c) (all_guarded l c (all_closed (is_last is_dot_segment l) (reduced l) (all-reverse (put_all [] l) (all_put_all [] l refl h))))

pub dot_segment : is_segment (dot ∷ []) ≡ true
unfolding tokens is_plain is_unreserved
dot_segment = refl

pub each_shaped : (l : List (List ℕ)) → list_all is_segment l ≡ true → list_all is_segment (shaped l) ≡ true
each_shaped l h = all_shaped is_segment empty_segment dot_segment l h

-- ---- a list that passes the test is its own normal form

last_double_dots : (l : List (List ℕ)) → begins_with_double_dots l ≡ true → is_last is_dot_segment l ≡ true → is_last is_double_dot l ≡ true
last_double_dots [] h k = k
last_double_dots (s ∷ []) h k = by_double (is_double_dot s) refl
  where
    by_double : (v : Bool) → is_double_dot s ≡ v → v ≡ true
    by_double true e = refl
    by_double false e =
        let none : not (is_dot_segment s || false) ≡ true = sym (double_dots-other s [] e) ∙ h in
        absurd (false≢true (sym (not-true (is_dot_segment s) (one (is_dot_segment s) none)) ∙ k))
      where
        one : (v : Bool) → not (v || false) ≡ true → not v ≡ true
        one true g = g
        one false g = g
last_double_dots (s ∷ r ∷ l) h k = by_double (is_double_dot s) refl (last_double_dots (r ∷ l))
  where
    later : (x : List ℕ) (y : List (List ℕ)) → is_last is_dot_segment (x ∷ y) ≡ true → has_dot_segment (x ∷ y) ≡ true
    later x [] g = rw g refl
    later x (z ∷ y) g = or_right (is_dot_segment x) (has_dot_segment (z ∷ y)) (later z y g)

    by_double : (v : Bool) → is_double_dot s ≡ v
        → (begins_with_double_dots (r ∷ l) ≡ true → is_last is_dot_segment (r ∷ l) ≡ true → is_last is_double_dot (r ∷ l) ≡ true) → is_last is_double_dot (r ∷ l) ≡ true
    by_double true e g = g (sym (double_dots-double s (r ∷ l) e) ∙ h) k
    by_double false e g = absurd (false≢true (sym (double_dots-other s (r ∷ l) e ∙ ap not (or_right (is_dot_segment s) (has_dot_segment (r ∷ l)) (later r l k)))
        ∙ h))

closed_kept : (l : List (List ℕ)) → begins_with_double_dots l ≡ true → closed (is_last is_dot_segment l) l ≡ l
closed_kept [] h = refl
closed_kept (s ∷ l) h = by_last (is_last is_dot_segment (s ∷ l)) refl
  where
    by_last : (v : Bool) → is_last is_dot_segment (s ∷ l) ≡ v → cond (v && not (is_last is_double_dot (s ∷ l))) ((s ∷ l) ++ [] ∷ []) (s ∷ l) ≡ s ∷ l
    by_last true e = rw (last_double_dots (s ∷ l) h e) refl
    by_last false e = refl

no_leading_dot : (l : List (List ℕ)) → starts_with_empty_segment l ≡ false → needs_leading_dot l l ≡ false
no_leading_dot l h = rw h (never (is_first has_colon l))
  where
    never : (v : Bool) → (v && not v) ≡ false
    never true = refl
    never false = refl

filled_kept : (l : List (List ℕ)) → 0 < length l → filled l ≡ l
filled_kept [] h = absurd (omega arith)
filled_kept (s ∷ l) h = refl

pub climbing_kept : (l : List (List ℕ)) → 0 < length l → starts_with_empty_segment l ≡ false → begins_with_double_dots l ≡ true → shaped l ≡ l
climbing_kept l some h k =
    ap (λ u. filled (with_leading_dot l (closed (is_last is_dot_segment l) u))) (reduced_kept l k)
    ∙ ap (λ u. filled (with_leading_dot l u)) (closed_kept l k)
    ∙ ap (λ v. filled (cond v ((dot ∷ []) ∷ l) l)) (no_leading_dot l h)
    ∙ filled_kept l some

reduced_single : (s : List ℕ) (l : List (List ℕ)) → is_single_dot s ≡ true → reduced (s ∷ l) ≡ reduced l
reduced_single s l h = ap (λ u. reverse (put_all u l)) skipped
  where
    skipped : put [] s ≡ []
    skipped = rw h refl

guarded_kept : (s : List ℕ) (l : List (List ℕ)) → is_single_dot s ≡ true → begins_with_double_dots l ≡ true → needs_leading_dot (s ∷ l) l ≡ true
    → shaped (s ∷ l) ≡ (dot ∷ []) ∷ l
guarded_kept s [] h k g = absurd (false≢true g)
guarded_kept s (r ∷ l) h k g =
    ap (λ u. filled (with_leading_dot (s ∷ r ∷ l) (closed (is_last is_dot_segment (r ∷ l)) u))) (reduced_single s (r ∷ l) h ∙ reduced_kept (r ∷ l) k)
    ∙ ap (λ u. filled (with_leading_dot (s ∷ r ∷ l) u)) (closed_kept (r ∷ l) k)
    ∙ ap (λ v. filled (cond v ((dot ∷ []) ∷ r ∷ l) (r ∷ l))) g

pub settled_kept : (l : List (List ℕ)) → 0 < length l → starts_with_empty_segment l ≡ false → list_all is_canonical l ≡ true → is_canonical_byte l ≡ true → relative_normal l ≡ l
settled_kept [] some h c k = absurd (omega arith)
settled_kept (s ∷ l) some h c k = relative_is (s ∷ l) ∙ by_double_dots (begins_with_double_dots (s ∷ l)) refl
  where
    second : (a b : Bool) → (a || b) ≡ true → a ≡ false → b ≡ true
    second true b x e = cc
    second false b x e = x

    by_double_dots : (v : Bool) → begins_with_double_dots (s ∷ l) ≡ v → map canonical (shaped (s ∷ l)) ≡ s ∷ l
    by_double_dots true e = ap (map canonical) (climbing_kept (s ∷ l) some h e) ∙ all_canonical_same (s ∷ l) c
    by_double_dots false e =
        let g = and_parts (is_single_dot s && begins_with_double_dots l) (needs_leading_dot (s ∷ l) l) (second (begins_with_double_dots (s ∷ l)) (has_needed_leading_dot (s ∷ l)) k e) in
        let both = and_parts (is_single_dot s) (begins_with_double_dots l) g.0 in
        let own = and_parts (is_canonical s) (list_all is_canonical l) c in
        let plain : s ≡ dot ∷ [] = sym (canonical_same s own.0) ∙ single_is s both.0 in
        ap (map canonical) (guarded_kept s l both.0 both.1 g.1)
        ∙ ap (λ u. u ∷ map canonical l) canonical-dot
        ∙ ap (λ u. (dot ∷ []) ∷ u) (all_canonical_same l own.1)
        ∙ ap (λ u. u ∷ l) (sym plain)

-- each normal form passes it
pub settled_relative : (l : List (List ℕ)) → list_all is_segment l ≡ true → is_canonical_byte (relative_normal l) ≡ true
settled_relative l h =
    let each : list_all is_segment (shaped l) ≡ true = each_shaped l h in
    ap is_canonical_byte (relative_is l) ∙ rw (double_dots-canonical (shaped l) each, with_leading_dot-canonical (shaped l) each) (settled_shaped l)

pub canonical_relative : (l : List (List ℕ)) → list_all is_segment l ≡ true → list_all is_canonical (relative_normal l) ≡ true
canonical_relative l h = ap (list_all is_canonical) (relative_is l) ∙ all_canonical-canonical (shaped l) (each_shaped l h)

pub each_relative : (l : List (List ℕ)) → list_all is_segment l ≡ true → list_all is_segment (relative_normal l) ≡ true
each_relative l h = ap (list_all is_segment) (relative_is l) ∙ each-canonical (shaped l) (each_shaped l h)

pub some_filled : (c : List (List ℕ)) → 0 < length (filled c)
some_filled [] = omega arith
some_filled (s ∷ c) = omega arith

pub some_relative : (l : List (List ℕ)) → 0 < length (relative_normal l)
some_relative l = rw (relative_is l, length-canonical (shaped l)) (some_filled (with_leading_dot l (closed (is_last is_dot_segment l) (reduced l))))

pub relative_iff : (l : List (List ℕ)) → 0 < length l → starts_with_empty_segment l ≡ false → list_all is_segment l ≡ true
    → ((list_all is_canonical l && is_canonical_byte l) ≡ true) ↔ (relative_normal l ≡ l)
relative_iff l some h each = (
  λ k. let both = and_parts _ _ k in settled_kept l some h both.0 both.1,
  λ e. and_from _ _ (sym (ap (list_all is_canonical) e) ∙ canonical_relative l each) (sym (ap is_canonical_byte e) ∙ settled_relative l each),
)

pub relative_twice : (l : List (List ℕ)) → list_all is_segment l ≡ true → relative_normal (relative_normal l) ≡ relative_normal l
relative_twice l h = settled_kept (relative_normal l) (some_relative l) (hides_relative l) (canonical_relative l h) (settled_relative l h)

-- ---- each segment that is left is one; no colon comes first

pub each_reduced : (l : List (List ℕ)) → list_all is_segment l ≡ true → list_all is_segment (reduced l) ≡ true
each_reduced l h = all-reverse is_segment empty_segment dot_segment (put_all [] l) (all_put_all is_segment empty_segment dot_segment [] l refl h)

-- no normal form begins with a colon if its source did not
colon_shaped : (l : List (List ℕ)) → is_first has_colon l ≡ false → is_first has_colon (shaped l) ≡ false
colon_shaped l h = by_leading_dot (needs_leading_dot l (closed (is_last is_dot_segment l) (reduced l))) (closed (is_last is_dot_segment l) (reduced l)) refl
  where
    colon_filled : (c : List (List ℕ)) → is_first has_colon c ≡ false → is_first has_colon (filled c) ≡ false
    colon_filled [] k = refl
    colon_filled (s ∷ c) k = k

    own : (a : Bool) → (a && not (is_first has_colon l)) ≡ false → a ≡ false
    own true k = absurd (false≢true (sym k ∙ ap not h))
    own false k = refl

    by_leading_dot : (v : Bool) (c : List (List ℕ)) → needs_leading_dot l c ≡ v → is_first has_colon (filled (cond v ((dot ∷ []) ∷ c) c)) ≡ false
    by_leading_dot true c e = refl
    by_leading_dot false c e = colon_filled c (own (is_first has_colon c) (or_parts (starts_with_empty_segment c) (is_first has_colon c && not (is_first has_colon l)) e).1)

pub colon_relative : (l : List (List ℕ)) → is_first has_colon l ≡ false → is_first has_colon (relative_normal l) ≡ false
colon_relative l h = ap (is_first has_colon) (relative_is l) ∙ first_colon-canonical (shaped l) ∙ colon_shaped l h
