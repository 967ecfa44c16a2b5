-- Paths without their dot segments, and their normal forms.
use Rattle.std.proofs.Common.{◌≡◌, ◌↔◌, ℕ, ◌+◌, ◌<◌, ◌≤◌, Bool, true, false, not, cond, List, [], ◌∷◌, ◌++◌, length, drop, map, refl, sym, ap, ◌∙◌, subst}
use Rattle.std.proofs.Common.{arith, ◌&&◌, ◌||◌, length-append, append-nil, append_assoc}
use Rattle.std.specs.List.{list_all, slice_split, join_with_byte}
use Rattle.std.proofs.lemmas.Bool.{false≢true, not-true, and_parts, and_from, or_parts}
use Rattle.std.proofs.lemmas.List.Folds.{list_all-append}
use Rattle.uriparse_text.specs.Bytes.{slash}
use Rattle.uriparse_text.specs.Canonical.{canonical}
use Rattle.uriparse_text.specs.Segment.{is_segment}
use Rattle.uriparse_path.specs.Path.{PathParts, IsListed, text, is_slash, is_rooted, pieces, spelled, starts_with_empty_segment, respelled}
use Rattle.uriparse_path.specs.Dots.{is_single_dot, is_double_dot, is_dot_segment, has_dot_segment, all_but_last, replay, rooted_after, replayed, undot}
use Rattle.uriparse_path.specs.Dots.{without_dots}
use Rattle.uriparse_path.specs.Relative.{is_first, has_colon, relative_normal}
use Rattle.uriparse_path.specs.Normal.{canonical_path, stays_relative, pnormal, is_canonical, begins_with_double_dots, has_needed_leading_dot, is_normal, are_normal}
use Rattle.uriparse_path.proofs.lemmas.text.PathTextLemmas.{text-spelled, spelled-text, listed-respelled, pieces-segments, lacks_slash, rooted-relative}
use Rattle.uriparse_text.proofs.lemmas.canonical.DotLemmas.{canonical-nil}
use Rattle.uriparse_path.proofs.lemmas.text.CanonicalTextLemmas.{canonical-text, length-canonical, listed-canonical, is_rooted-canonical}
use Rattle.uriparse_text.proofs.lemmas.canonical.DotLemmas.{empty_no_dot}
use Rattle.uriparse_path.proofs.lemmas.dots.DotSegmentLemmas.{no_dot}
use Rattle.uriparse_path.proofs.lemmas.dots.ReplayLemmas.{AreClean, replay_some, once_rooted, undot-text}
use Rattle.uriparse_path.proofs.lemmas.normal.RelativeFormLemmas.{colon_relative, all_canonical_same, all_canonical-canonical, has_dot-canonical, hides-canonical, hides_relative}
use Rattle.uriparse_text.proofs.lemmas.canonical.DotLemmas.{empty_segment}
use Rattle.uriparse_path.proofs.lemmas.normal.RelativeFormLemmas.{each_relative, some_relative, relative_iff, relative_twice}
use Rattle.uriparse_path.proofs.lemmas.normal.RelativeLengthLemmas.{length_relative}

-- ---- replayed segments

-- a segment that is no dot segment
abbrev pub is_plain : List ℕ → Bool
is_plain s = is_segment s && not (is_dot_segment s)

plain_empty : is_plain [] ≡ true
plain_empty = and_from _ _ empty_segment (ap not empty_no_dot)

plain_push : (out : List (List ℕ)) (s : List ℕ) → list_all is_plain out ≡ true → is_plain s ≡ true → list_all is_plain (out ++ s ∷ []) ≡ true
plain_push out s h k = list_all-append is_plain out (s ∷ []) ∙ and_from _ _ h (and_from _ _ k refl)

plain_cut : (out : List (List ℕ)) → list_all is_plain out ≡ true → list_all is_plain (all_but_last out) ≡ true
plain_cut [] h = refl
plain_cut (s ∷ []) h = refl
plain_cut (s ∷ r ∷ out) h = let both = and_parts _ _ h in and_from _ _ both.0 (plain_cut (r ∷ out) both.1)

plain_segment : (s : List ℕ) → is_segment s ≡ true → is_single_dot s ≡ false → is_double_dot s ≡ false → is_plain s ≡ true
plain_segment s h e f = and_from _ _ h (ap not (no_dot s e f))

plain_replay : (out l : List (List ℕ)) → list_all is_plain out ≡ true → list_all is_segment l ≡ true → list_all is_plain (replay out l) ≡ true
plain_replay out [] h k = h
plain_replay out (s ∷ []) h k = by_kind (is_single_dot s) refl (is_double_dot s) refl
  where
    by_kind : (v : Bool) → is_single_dot s ≡ v → (w : Bool) → is_double_dot s ≡ w
        → list_all is_plain (cond v (out ++ [] ∷ []) (cond w (all_but_last out ++ [] ∷ []) (out ++ s ∷ []))) ≡ true
    by_kind true e w f = plain_push out [] h plain_empty
    by_kind false e true f = plain_push (all_but_last out) [] (plain_cut out h) plain_empty
    by_kind false e false f = plain_push out s h (plain_segment s (and_parts _ _ k).0 e f)
plain_replay out (s ∷ r ∷ l) h k =
    by_kind (is_single_dot s) refl (is_double_dot s) refl (plain_replay out (r ∷ l) h) (plain_replay (all_but_last out) (r ∷ l) (plain_cut out h))
    (plain_replay (out ++ s ∷ []) (r ∷ l))
  where
    by_kind : (v : Bool) → is_single_dot s ≡ v → (w : Bool) → is_double_dot s ≡ w
        → (list_all is_segment (r ∷ l) ≡ true → list_all is_plain (replay out (r ∷ l)) ≡ true)
        → (list_all is_segment (r ∷ l) ≡ true → list_all is_plain (replay (all_but_last out) (r ∷ l)) ≡ true)
        → (list_all is_plain (out ++ s ∷ []) ≡ true → list_all is_segment (r ∷ l) ≡ true → list_all is_plain (replay (out ++ s ∷ []) (r ∷ l)) ≡ true)
        → list_all is_plain (cond v (replay out (r ∷ l)) (cond w (replay (all_but_last out) (r ∷ l)) (replay (out ++ s ∷ []) (r ∷ l)))) ≡ true
    by_kind true e w f x y z = x (and_parts _ _ k).1
    by_kind false e true f x y z = y (and_parts _ _ k).1
    by_kind false e false f x y z = z (plain_push out s h (plain_segment s (and_parts _ _ k).0 e f)) (and_parts _ _ k).1

each_plain : (l : List (List ℕ)) → list_all is_plain l ≡ true → list_all is_segment l ≡ true
each_plain [] h = refl
each_plain (s ∷ l) h = let both = and_parts _ _ h in and_from _ _ (and_parts (is_segment s) _ both.0).0 (each_plain l both.1)

pub none_plain : (l : List (List ℕ)) → list_all is_plain l ≡ true → has_dot_segment l ≡ false
none_plain [] h = refl
none_plain (s ∷ l) h =
    let both = and_parts _ _ h in
    let here : is_dot_segment s ≡ false = not-true (is_dot_segment s) (and_parts (is_segment s) _ both.0).1 in
    let later : has_dot_segment l ≡ false = none_plain l both.1 in
    rw (here, later) refl

pub length_cut : (out : List (List ℕ)) → length (all_but_last out) ≤ length out
length_cut [] = omega arith
length_cut (s ∷ []) = omega arith
length_cut (s ∷ r ∷ out) = omega (arith, length_cut (r ∷ out))

pub length_replay : (out l : List (List ℕ)) → length (replay out l) ≤ length out + length l
length_replay out [] = omega arith
length_replay out (s ∷ []) = by_kind (is_single_dot s) (is_double_dot s)
  where
    by_kind : (v w : Bool) → length (cond v (out ++ [] ∷ []) (cond w (all_but_last out ++ [] ∷ []) (out ++ s ∷ []))) ≤ length out + length (s ∷ [])
    by_kind true w = omega (arith, length-append out ([] ∷ []))
    by_kind false true = omega (arith, length-append (all_but_last out) ([] ∷ []), length_cut out)
    by_kind false false = omega (arith, length-append out (s ∷ []))
length_replay out (s ∷ r ∷ l) =
    by_kind (is_single_dot s) (is_double_dot s) (length_replay out (r ∷ l)) (length_replay (all_but_last out) (r ∷ l)) (length_replay (out ++ s ∷ []) (r ∷ l))
  where
    by_kind : (v w : Bool) → length (replay out (r ∷ l)) ≤ length out + length (r ∷ l)
        → length (replay (all_but_last out) (r ∷ l)) ≤ length (all_but_last out) + length (r ∷ l)
        → length (replay (out ++ s ∷ []) (r ∷ l)) ≤ length (out ++ s ∷ []) + length (r ∷ l)
        → length (cond v (replay out (r ∷ l)) (cond w (replay (all_but_last out) (r ∷ l)) (replay (out ++ s ∷ []) (r ∷ l)))) ≤ length out + length (s ∷ r ∷ l)
    by_kind true w x y z = omega (arith, x)
    by_kind false true x y z = omega (arith, y, length_cut out)
    by_kind false false x y z = omega (arith, z, length-append out (s ∷ []))

-- without dot segments nothing changes
pub replay_kept : (out l : List (List ℕ)) → has_dot_segment l ≡ false → replay out l ≡ out ++ l
replay_kept out [] h = sym (append-nil out)
replay_kept out (s ∷ []) h =
    let n = or_parts (is_single_dot s) (is_double_dot s) (or_parts (is_dot_segment s) false h).0 in
    rw (n.0, n.1) refl
replay_kept out (s ∷ r ∷ l) h =
    let parts = or_parts (is_dot_segment s) (has_dot_segment (r ∷ l)) h in
    let n = or_parts (is_single_dot s) (is_double_dot s) parts.0 in
    rw (n.0, n.1) (replay_kept (out ++ s ∷ []) (r ∷ l) parts.1 ∙ append_assoc out (s ∷ []) (r ∷ l))

pub rooted_kept : (rooted : Bool) (out l : List (List ℕ)) → has_dot_segment l ≡ false → rooted_after rooted out l ≡ rooted
rooted_kept rooted out [] h = refl
rooted_kept rooted out (s ∷ l) h =
    let parts = or_parts (is_dot_segment s) (has_dot_segment l) h in
    let n = or_parts (is_single_dot s) (is_double_dot s) parts.0 in
    rw (n.0, n.1) (rooted_kept rooted (out ++ s ∷ []) l parts.1)

-- ---- paths without dot segments

clean_segments : (l : List (List ℕ)) → list_all is_segment l ≡ true → AreClean l
clean_segments [] h = tt
clean_segments (s ∷ l) h = let both = and_parts _ _ h in (lacks_slash s both.0, clean_segments l both.1)

pub plain_replayed : (p : PathParts) → IsListed p.segments → list_all is_plain (replay [] p.segments) ≡ true
plain_replayed p is = plain_replay [] p.segments refl is.each

pub listed_replayed : (p : PathParts) → IsListed p.segments → IsListed (replayed p).segments
listed_replayed p is = record {
  some = replay_some [] p.segments is.some;
  short = let e = length_replay [] p.segments in omega (arith, e, is.short);
  each = each_plain (replay [] p.segments) (plain_replayed p is);
}

pub undot_path : (p : PathParts) → IsListed p.segments → undot (text p) ≡ text (replayed p)
undot_path p is = undot-text p is.some (clean_segments p.segments is.each)

-- the path is that of the replayed segments, absolute if its text begins with a slash
pub spelled_undot : (p : PathParts) → IsListed p.segments → spelled (undot (text p)) ≡ respelled (replayed p)
spelled_undot p is = ap spelled (undot_path p is) ∙ spelled-text (replayed p) (listed_replayed p is)

pub has_dot-respelled : (p : PathParts) → has_dot_segment (respelled p).segments ≡ has_dot_segment p.segments
has_dot-respelled p = by_shape p.absolute p.segments
  where
    by_shape : (a : Bool) (l : List (List ℕ)) → has_dot_segment (respelled (record { absolute = a; segments = l })).segments ≡ has_dot_segment l
    by_shape true l = refl
    by_shape false [] = refl
    by_shape false ([] ∷ []) = refl
    by_shape false ([] ∷ r ∷ l) = sym (rw empty_no_dot refl)
    by_shape false ((b ∷ s) ∷ l) = refl

pub length-respelled : (p : PathParts) → length (respelled p).segments ≤ length p.segments
length-respelled p = by_shape p.absolute p.segments
  where
    by_shape : (a : Bool) (l : List (List ℕ)) → length (respelled (record { absolute = a; segments = l })).segments ≤ length l
    by_shape true l = omega arith
    by_shape false [] = omega arith
    by_shape false ([] ∷ []) = omega arith
    by_shape false ([] ∷ r ∷ l) = omega arith
    by_shape false ((b ∷ s) ∷ l) = omega arith

-- a path without dot segments is rewritten to itself
pub undot_kept : (p : PathParts) → IsListed p.segments → has_dot_segment p.segments ≡ false → undot (text p) ≡ text p
undot_kept p is h = undot_path p is ∙ rw (replay_kept [] p.segments h, rooted_kept p.absolute [] p.segments h) refl

pub no_dots_left : (p : PathParts) → IsListed p.segments → has_dot_segment (without_dots p).segments ≡ false
no_dots_left p is = by_dots (has_dot_segment p.segments) refl
  where
    by_dots : (v : Bool) → has_dot_segment p.segments ≡ v → has_dot_segment (cond v (spelled (undot (text p))) p).segments ≡ false
    by_dots true e = ap (λ q. has_dot_segment q.segments) (spelled_undot p is) ∙ has_dot-respelled (replayed p)
        ∙ none_plain (replay [] p.segments) (plain_replayed p is)
    by_dots false e = e

pub listed_without_dots : (p : PathParts) → IsListed p.segments → IsListed (without_dots p).segments
listed_without_dots p is = by_dots (has_dot_segment p.segments)
  where
    by_dots : (v : Bool) → IsListed (cond v (spelled (undot (text p))) p).segments
    by_dots true = subst (λ q. IsListed q.segments) (sym (spelled_undot p is)) (listed-respelled (replayed p) (listed_replayed p is))
    by_dots false = is

pub length_without_dots : (p : PathParts) → IsListed p.segments → length (without_dots p).segments ≤ length p.segments
length_without_dots p is = by_dots (has_dot_segment p.segments)
  where
    by_dots : (v : Bool) → length (cond v (spelled (undot (text p))) p).segments ≤ length p.segments
    by_dots true = let e = length_replay [] p.segments in let f = length-respelled (replayed p) in
        omega (arith, ap (λ q. length q.segments) (spelled_undot p is), e, f)
    by_dots false = omega arith

-- ---- the three cases of a normal form

pub pnormal_relative : (p : PathParts) (r : Bool) → stays_relative p r ≡ true → pnormal p r ≡ record { absolute = false; segments = relative_normal p.segments }
pnormal_relative p r h =
    ap (λ v. cond v (record { absolute = false; segments = relative_normal p.segments })
    (cond (has_dot_segment p.segments) (spelled (canonical (undot (text p)))) (canonical_path p))) h

pub pnormal_dots : (p : PathParts) (r : Bool) → stays_relative p r ≡ false → has_dot_segment p.segments ≡ true →
    pnormal p r ≡ spelled (canonical (undot (text p)))
pnormal_dots p r h k =
    ap (λ v. cond v (record { absolute = false; segments = relative_normal p.segments })
    (cond (has_dot_segment p.segments) (spelled (canonical (undot (text p)))) (canonical_path p))) h
    ∙ ap (λ v. cond v (spelled (canonical (undot (text p)))) (canonical_path p)) k

pub pnormal_plain : (p : PathParts) (r : Bool) → stays_relative p r ≡ false → has_dot_segment p.segments ≡ false → pnormal p r ≡ canonical_path p
pnormal_plain p r h k =
    ap (λ v. cond v (record { absolute = false; segments = relative_normal p.segments })
    (cond (has_dot_segment p.segments) (spelled (canonical (undot (text p)))) (canonical_path p))) h
    ∙ ap (λ v. cond v (spelled (canonical (undot (text p)))) (canonical_path p)) k

-- what holds of each case holds of the normal form
by_case : (p : PathParts) (r : Bool) (P : PathParts → Type 0)
    → (stays_relative p r ≡ true → P (record { absolute = false; segments = relative_normal p.segments }))
    → (stays_relative p r ≡ false → has_dot_segment p.segments ≡ true → P (spelled (canonical (undot (text p)))))
    → (stays_relative p r ≡ false → has_dot_segment p.segments ≡ false → P (canonical_path p))
    → P (pnormal p r)
by_case p r P f g h = by_tests (stays_relative p r) refl (has_dot_segment p.segments) refl
  where
    by_tests : (v : Bool) → stays_relative p r ≡ v → (w : Bool) → has_dot_segment p.segments ≡ w → P (pnormal p r)
    by_tests true e w k = subst P (sym (pnormal_relative p r e)) (f e)
    by_tests false e true k = subst P (sym (pnormal_dots p r e k)) (g e k)
    by_tests false e false k = subst P (sym (pnormal_plain p r e k)) (h e k)

pub respelled-canonical : (p : PathParts) → respelled (canonical_path p) ≡ canonical_path (respelled p)
respelled-canonical p = by_shape p.absolute p.segments
  where
    by_shape : (a : Bool) (l : List (List ℕ))
        → respelled (canonical_path (record { absolute = a; segments = l })) ≡ canonical_path (respelled (record { absolute = a; segments = l }))
    by_shape true l = refl
    by_shape false [] = refl
    by_shape false ([] ∷ []) = rw canonical-nil refl
    by_shape false ([] ∷ r ∷ l) = rw canonical-nil refl
    by_shape false ((b ∷ s) ∷ l) = rw (hides-canonical ((b ∷ s) ∷ l)) refl

-- the case with dot segments, segment by segment
pub spelled_canonical_undot : (p : PathParts) → IsListed p.segments → spelled (canonical (undot (text p))) ≡ canonical_path (respelled (replayed p))
spelled_canonical_undot p is =
    ap (λ t. spelled (canonical t)) (undot_path p is)
    ∙ ap spelled (canonical-text (replayed p) (listed_replayed p is))
    ∙ spelled-text (canonical_path (replayed p)) (listed-canonical (replay [] p.segments) (listed_replayed p is))
    ∙ respelled-canonical (replayed p)

-- ---- whether a text begins with a slash

pub rooted-text : (p : PathParts) → IsListed p.segments → is_rooted (text p) ≡ (p.absolute || starts_with_empty_segment p.segments)
rooted-text p is = by_shape p.absolute p.segments is
  where
    by_shape : (a : Bool) (l : List (List ℕ)) → IsListed l → is_rooted (text (record { absolute = a; segments = l })) ≡ (a || starts_with_empty_segment l)
    by_shape true l is = refl
    by_shape false [] is = absurd (omega (arith, is.some))
    by_shape false ([] ∷ []) is = refl
    by_shape false ([] ∷ r ∷ l) is = refl
    by_shape false ((b ∷ s) ∷ l) is = rooted-relative (b ∷ s) l (and_parts _ _ is.each).0 refl

-- a path that stays relative
pub record Relative (p : PathParts) (r : Bool) : Type 0 where
  pub asked : r ≡ true
  pub flag : p.absolute ≡ false
  pub shown : starts_with_empty_segment p.segments ≡ false

pub relative : (p : PathParts) (r : Bool) → IsListed p.segments → stays_relative p r ≡ true → Relative p r
relative p r is h =
    let both = and_parts r (not (is_rooted (text p))) h in
    let parts = or_parts p.absolute (starts_with_empty_segment p.segments) (sym (rooted-text p is) ∙ not-true (is_rooted (text p)) both.1) in
    record { asked = both.0; flag = parts.0; shown = parts.1 }

not_relative : (r v : Bool) → (r && not v) ≡ false → r ≡ true → v ≡ true
not_relative true true h k = refl
not_relative true false h k = cc
not_relative false v h k = absurd (false≢true k)

-- ---- each normal form is a path, with no more segments

pub listed_pnormal : (p : PathParts) (r : Bool) → IsListed p.segments → IsListed (pnormal p r).segments
listed_pnormal p r is = by_case p r (λ q. IsListed q.segments)
    (λ e. let rel = relative p r is e in let no_longer = length_relative p.segments is.some rel.shown in
    record { some = some_relative p.segments; short = omega (arith, is.short, no_longer); each = each_relative p.segments is.each })
    (λ e k. subst (λ q. IsListed q.segments) (sym (spelled_canonical_undot p is))
    (listed-canonical (respelled (replayed p)).segments (listed-respelled (replayed p) (listed_replayed p is))))
    (λ e k. listed-canonical p.segments is)

pub length_pnormal : (p : PathParts) (r : Bool) → IsListed p.segments → length (pnormal p r).segments ≤ length p.segments
length_pnormal p r is = by_case p r (λ q. length q.segments ≤ length p.segments)
    (λ e. length_relative p.segments is.some (relative p r is e).shown)
    (λ e k. let a = length_replay [] p.segments in let b = length-respelled (replayed p) in
    omega (arith, ap (λ q. length q.segments) (spelled_canonical_undot p is), length-canonical (respelled (replayed p)).segments, a, b))
    (λ e k. let a = length-canonical p.segments in omega (arith, a))

-- ---- which paths are in normal form

joined_same : (x y : List (List ℕ)) → 0 < length x → 0 < length y → list_all is_segment x ≡ true → list_all is_segment y ≡ true
    → join_with_byte slash x ≡ join_with_byte slash y → x ≡ y
joined_same [] y a b h k e = absurd (omega arith)
joined_same (s ∷ x) [] a b h k e = absurd (omega arith)
joined_same (s ∷ x) (r ∷ y) a b h k e = sym (pieces-segments s x h) ∙ ap (slice_split is_slash) e ∙ pieces-segments r y k

pub text_same : (a : Bool) (x y : List (List ℕ)) → IsListed x → IsListed y
    → text (record { absolute = a; segments = x }) ≡ text (record { absolute = a; segments = y }) → x ≡ y
text_same true x y h k e = let f : join_with_byte slash x ≡ join_with_byte slash y = cc in joined_same x y h.some k.some h.each k.each f
text_same false x y h k e = joined_same x y h.some k.some h.each k.each e

has_dots-text : (p : PathParts) → IsListed p.segments → has_dot_segment (spelled (text p)).segments ≡ has_dot_segment p.segments
has_dots-text p is = ap (λ q. has_dot_segment q.segments) (spelled-text p is) ∙ has_dot-respelled p

pub none_in_normal : (p : PathParts) → IsListed p.segments → has_dot_segment (spelled (canonical (undot (text p)))).segments ≡ false
none_in_normal p is =
    ap (λ q. has_dot_segment q.segments) (spelled_canonical_undot p is)
    ∙ has_dot-canonical (respelled (replayed p)).segments (listed-respelled (replayed p) (listed_replayed p is)).each
    ∙ has_dot-respelled (replayed p)
    ∙ none_plain (replay [] p.segments) (plain_replayed p is)

-- the test of the case
abbrev is_normal_by : Bool → PathParts → Bool
is_normal_by v p = list_all is_canonical p.segments && cond v (begins_with_double_dots p.segments || has_needed_leading_dot p.segments) (not (has_dot_segment p.segments))

pub normal_iff : (p : PathParts) (r : Bool) → IsListed p.segments → (is_normal p r ≡ true) ↔ (text (pnormal p r) ≡ text p)
normal_iff p r is = by_case p r (λ q. (is_normal p r ≡ true) ↔ (text q ≡ text p))
    (λ e. subst (λ v. (is_normal_by v p ≡ true) ↔ (text (record { absolute = false; segments = relative_normal p.segments }) ≡ text p)) (sym e)
    (by_flag p.absolute p.segments is (relative p r is e).flag (relative p r is e).shown))
    (λ e k. subst (λ v. (is_normal_by v p ≡ true) ↔ (text (spelled (canonical (undot (text p)))) ≡ text p)) (sym e) (never k))
    (λ e k. subst (λ v. (is_normal_by v p ≡ true) ↔ (text (canonical_path p) ≡ text p)) (sym e) (spelled_itself k))
  where
    by_flag : (a : Bool) (l : List (List ℕ)) → IsListed l → a ≡ false → starts_with_empty_segment l ≡ false
        → ((list_all is_canonical l && (begins_with_double_dots l || has_needed_leading_dot l)) ≡ true)
        ↔ (text (record { absolute = false; segments = relative_normal l }) ≡ text (record { absolute = a; segments = l }))
    by_flag true l is h k = absurd (false≢true (sym h))
    by_flag false l is h k =
        let both = relative_iff l is.some k is.each in
        let short : length (relative_normal l) ≤ length l = length_relative l is.some k in
        let listed : IsListed (relative_normal l) =
        record { some = some_relative l; short = omega (arith, short, is.short); each = each_relative l is.each } in (
          λ g. ap (λ m. text (record { absolute = false; segments = m })) (both.0 g),
          λ e. both.1 (text_same false (relative_normal l) l listed is e),
        )

    never : has_dot_segment p.segments ≡ true → (is_normal_by false p ≡ true) ↔ (text (spelled (canonical (undot (text p)))) ≡ text p)
    never k = (
      λ g. absurd (false≢true (sym (ap not k) ∙ (and_parts (list_all is_canonical p.segments) (not (has_dot_segment p.segments)) g).1)),
      λ e. absurd (false≢true (sym (none_in_normal p is) ∙ ap (λ t. has_dot_segment (spelled t).segments) (sym (text-spelled (canonical (undot (text p)))) ∙ e)
          ∙ has_dots-text p is ∙ k)),
    )

    spelled_itself : has_dot_segment p.segments ≡ false → (is_normal_by false p ≡ true) ↔ (text (canonical_path p) ≡ text p)
    spelled_itself k = (
      λ g. ap (λ m. text (record { absolute = p.absolute; segments = m }))
          (all_canonical_same p.segments (and_parts (list_all is_canonical p.segments) (not (has_dot_segment p.segments)) g).0),
      λ e. and_from _ _ (sym (ap (list_all is_canonical) (text_same p.absolute (map canonical p.segments) p.segments (listed-canonical p.segments is) is e))
          ∙ all_canonical-canonical p.segments is.each) (ap not k),
    )

-- ---- the normal form of a normal form

-- a path in canonical spelling that has no dot segment
settled : (q : PathParts) (r : Bool) → stays_relative q r ≡ false → has_dot_segment q.segments ≡ false → list_all is_canonical q.segments ≡ true
    → pnormal q r ≡ q
settled q r h k c = pnormal_plain q r h k ∙ ap (λ m. record { absolute = q.absolute; segments = m }) (all_canonical_same q.segments c)

rooted_undot : (t : List ℕ) → is_rooted t ≡ true → is_rooted (undot t) ≡ true
unfolding undot
rooted_undot t h = rw (h, once_rooted [] (pieces t)) refl

still_not_relative : (r v w : Bool) → (r && not v) ≡ false → (v ≡ true → w ≡ true) → (r && not w) ≡ false
still_not_relative true v w h f = ap not (f (not_relative true v h refl))
still_not_relative false v w h f = refl

pub pnormal_twice : (p : PathParts) (r : Bool) → IsListed p.segments → pnormal (pnormal p r) r ≡ pnormal p r
pnormal_twice p r is = by_case p r (λ q. pnormal q r ≡ q)
    (λ e. let listed = subst (λ q. IsListed q.segments) (pnormal_relative p r e) (listed_pnormal p r is) in
    let q : PathParts = record { absolute = false; segments = relative_normal p.segments } in
    let shown : is_rooted (text (record { absolute = false; segments = relative_normal p.segments })) ≡ false =
    rooted-text (record { absolute = false; segments = relative_normal p.segments }) listed ∙ hides_relative p.segments in
    pnormal_relative (record { absolute = false; segments = relative_normal p.segments }) r (and_from _ _ (relative p r is e).asked (ap not shown))
    ∙ ap (λ m. record { absolute = false; segments = m }) (relative_twice p.segments is.each))
    (λ e k. settled (spelled (canonical (undot (text p)))) r
    (still_not_relative r (is_rooted (text p)) (is_rooted (text (spelled (canonical (undot (text p)))))) e
    (λ h. ap is_rooted (text-spelled (canonical (undot (text p)))) ∙ is_rooted-canonical (undot (text p)) ∙ rooted_undot (text p) h))
    (none_in_normal p is)
    (ap (λ q. list_all is_canonical q.segments) (spelled_canonical_undot p is)
    ∙ all_canonical-canonical (respelled (replayed p)).segments (listed-respelled (replayed p) (listed_replayed p is)).each))
    (λ e k. settled (canonical_path p) r
    (still_not_relative r (is_rooted (text p)) (is_rooted (text (canonical_path p))) e (λ h. ap is_rooted (sym (canonical-text p is))
    ∙ is_rooted-canonical (text p)
    ∙ h))
    (has_dot-canonical p.segments is.each ∙ k)
    (all_canonical-canonical p.segments is.each))

-- ---- what the normal form keeps of the path of a text and of an absolute path

pub pnormal_spelled : (p : PathParts) (r : Bool) → IsListed p.segments → spelled (text p) ≡ p → spelled (text (pnormal p r)) ≡ pnormal p r
pnormal_spelled p r is h = by_case p r (λ q. spelled (text q) ≡ q)
    (λ e. let listed = subst (λ q. IsListed q.segments) (pnormal_relative p r e) (listed_pnormal p r is) in
    spelled-text (record { absolute = false; segments = relative_normal p.segments }) listed
    ∙ ap (λ v. cond v (record { absolute = true; segments = drop 1 (relative_normal p.segments) }) (record {
      absolute = false;
      segments = relative_normal p.segments;
    })) (hides_relative p.segments))
    (λ e k. ap spelled (text-spelled (canonical (undot (text p)))))
    (λ e k. spelled-text (canonical_path p) (listed-canonical p.segments is) ∙ respelled-canonical p ∙ ap canonical_path (sym (spelled-text p is) ∙ h))

pub pnormal_absolute : (p : PathParts) (r : Bool) → IsListed p.segments → p.absolute ≡ true → (pnormal p r).absolute ≡ true
pnormal_absolute p r is h = by_case p r (λ q. q.absolute ≡ true)
    (λ e. absurd (false≢true (sym (relative p r is e).flag ∙ h)))
    (λ e k. is_rooted-canonical (undot (text p)) ∙ rooted_undot (text p) (rooted-text p is ∙ ap (λ v. v || starts_with_empty_segment p.segments) h))
    (λ e k. h)

-- a path that is unchanged keeps its parts
pub normal_kept : (p : PathParts) (r : Bool) → IsListed p.segments → is_normal p r ≡ true → pnormal p r ≡ p
normal_kept p r is n = by_case p r (λ q. text q ≡ text p → q ≡ p)
    (λ e g. by_flag p.absolute p.segments is (relative p r is e).flag (relative p r is e).shown g)
    (λ e k g. absurd (false≢true (sym (none_in_normal p is)
    ∙ ap (λ t. has_dot_segment (spelled t).segments) (sym (text-spelled (canonical (undot (text p)))) ∙ g)
    ∙ has_dots-text p is ∙ k)))
    (λ e k g. ap (λ m. record { absolute = p.absolute; segments = m })
    (text_same p.absolute (map canonical p.segments) p.segments (listed-canonical p.segments is) is g))
    ((normal_iff p r is).0 n)
  where
    by_flag : (a : Bool) (l : List (List ℕ)) → IsListed l → a ≡ false → starts_with_empty_segment l ≡ false
        → text (record { absolute = false; segments = relative_normal l }) ≡ text (record { absolute = a; segments = l })
        → ◌≡◌ {A = PathParts} (record { absolute = false; segments = relative_normal l }) (record { absolute = a; segments = l })
    by_flag true l is h k g = absurd (false≢true (sym h))
    by_flag false l is h k g =
        let short : length (relative_normal l) ≤ length l = length_relative l is.some k in
        let listed : IsListed (relative_normal l) = record { some = some_relative l; short = omega (arith, short, is.short); each = each_relative l is.each } in
        ap (λ m. record { absolute = false; segments = m }) (text_same false (relative_normal l) l listed is g)

-- ---- how the text of a normal form begins

pub pnormal_rooted : (p : PathParts) (r : Bool) → IsListed p.segments → is_rooted (text p) ≡ true → is_rooted (text (pnormal p r)) ≡ true
pnormal_rooted p r is h = by_case p r (λ q. is_rooted (text q) ≡ true)
    (λ e. absurd (false≢true (sym (not-true (is_rooted (text p)) (and_parts r (not (is_rooted (text p))) e).1) ∙ h)))
    (λ e k. ap is_rooted (text-spelled (canonical (undot (text p)))) ∙ is_rooted-canonical (undot (text p)) ∙ rooted_undot (text p) h)
    (λ e k. ap is_rooted (sym (canonical-text p is)) ∙ is_rooted-canonical (text p) ∙ h)

pub pnormal_rootless : (p : PathParts) → IsListed p.segments → is_rooted (text p) ≡ false → is_rooted (text (pnormal p true)) ≡ false
pnormal_rootless p is h =
    let e : stays_relative p true ≡ true = ap not h in
    let same = pnormal_relative p true e in
    let listed = subst (λ q. IsListed q.segments) same (listed_pnormal p true is) in
    ap (λ q. is_rooted (text q)) same
    ∙ rooted-text (record { absolute = false; segments = relative_normal p.segments }) listed
    ∙ hides_relative p.segments

pub pnormal_colon : (p : PathParts) → is_rooted (text p) ≡ false → is_first has_colon p.segments ≡ false → is_first has_colon (pnormal p true).segments ≡ false
pnormal_colon p h k = ap (λ q. is_first has_colon q.segments) (pnormal_relative p true (ap not h)) ∙ colon_relative p.segments k

-- each segment of a path that doesn't stay relative is canonical and no dot segment
pub settled_is : (ss : List (List ℕ)) → list_all (λ s. is_canonical s && not (is_dot_segment s)) ss ≡ are_normal false ss
settled_is [] = refl
settled_is (s ∷ ss) =
    ap (λ v. (is_canonical s && not (is_dot_segment s)) && v) (settled_is ss)
    ∙ by (is_canonical s) (is_dot_segment s) (list_all is_canonical ss) (has_dot_segment ss)
  where
    by : (u v w x : Bool) → ((u && not v) && (w && not x)) ≡ ((u && w) && not (v || x))
    by true true true x = refl
    by true true false x = refl
    by true false w x = refl
    by false v w x = refl
