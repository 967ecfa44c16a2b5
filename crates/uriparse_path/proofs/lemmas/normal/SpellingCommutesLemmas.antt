-- Removing dot segments, and the relative normal form, of segments in canonical spelling.
use Rattle.std.proofs.Common.{◌≡◌, ℕ, Bool, true, false, not, cond, List, [], ◌∷◌, ◌++◌, map, refl, sym, ap, ◌∙◌, ◌&&◌, ◌||◌}
use Rattle.std.specs.Prelude.{reverse}
use Rattle.std.specs.List.{list_all}
use Rattle.std.proofs.lemmas.Bool.{and_parts}
use Rattle.std.proofs.lemmas.List.{map-append, reverse-append}
use Rattle.uriparse_text.specs.Bytes.{dot}
use Rattle.uriparse_text.specs.Canonical.{canonical}
use Rattle.uriparse_text.specs.Segment.{is_segment}
use Rattle.uriparse_path.specs.Path.{PathParts, IsListed, text, spelled, respelled, IsPath, pieces, is_rooted}
use Rattle.uriparse_path.specs.Dots.{is_single_dot, is_double_dot, is_dot_segment, has_dot_segment, all_but_last, replay, is_one, rooted_after, replayed, undot}
use Rattle.uriparse_path.specs.Dots.{without_dots}
use Rattle.uriparse_path.specs.Relative.{is_last, closed, needs_leading_dot, with_leading_dot, filled, put, put_all, reduced, relative_normal}
use Rattle.uriparse_path.specs.Normal.{canonical_path, stays_relative, pnormal}
use Rattle.uriparse_path.proofs.lemmas.text.PathTextLemmas.{text-spelled}
use Rattle.uriparse_text.proofs.lemmas.canonical.DotLemmas.{canonical-nil}
use Rattle.uriparse_path.proofs.lemmas.text.CanonicalTextLemmas.{listed-canonical, canonical-text, is_rooted-canonical, is_path-text}
use Rattle.uriparse_text.proofs.lemmas.canonical.DotLemmas.{canonical-dot}
use Rattle.uriparse_path.proofs.lemmas.dots.DotSegmentLemmas.{single-canonical, double-canonical, dot-canonical}
use Rattle.uriparse_text.proofs.lemmas.canonical.DotLemmas.{empty_segment}
use Rattle.uriparse_path.proofs.lemmas.normal.RelativeFormLemmas.{all_put, dot_segment, shaped, relative_is, truncate_with_leading_dot-canonical, has_dot-canonical}
use Rattle.uriparse_path.proofs.lemmas.normal.RelativeFormLemmas.{all_canonical_same}
use Rattle.uriparse_path.proofs.lemmas.normal.RelativeFormLemmas.{all_canonical-canonical, each_reduced, each_shaped}
use Rattle.uriparse_path.proofs.lemmas.normal.NormalFormLemmas.{spelled_undot, spelled_canonical_undot, respelled-canonical, pnormal_dots, pnormal_plain, undot_path}
use Rattle.uriparse_path.proofs.lemmas.normal.NormalFormLemmas.{listed_replayed}
use Rattle.uriparse_path.proofs.lemmas.normal.NormalFormLemmas.{pnormal_relative}

-- ---- the replay

pub cut-canonical : (l : List (List ℕ)) → all_but_last (map canonical l) ≡ map canonical (all_but_last l)
cut-canonical [] = refl
cut-canonical (s ∷ []) = refl
cut-canonical (s ∷ r ∷ l) = ap (λ u. canonical s ∷ u) (cut-canonical (r ∷ l))

one-canonical : (l : List (List ℕ)) → is_one (map canonical l) ≡ is_one l
one-canonical [] = refl
one-canonical (s ∷ []) = refl
one-canonical (s ∷ r ∷ l) = refl

push-canonical : (out : List (List ℕ)) (s : List ℕ) → map canonical (out ++ s ∷ []) ≡ map canonical out ++ canonical s ∷ []
push-canonical out s = map-append canonical out (s ∷ [])

pub push_empty-canonical : (out : List (List ℕ)) → map canonical (out ++ [] ∷ []) ≡ map canonical out ++ [] ∷ []
push_empty-canonical out = push-canonical out [] ∙ ap (λ u. map canonical out ++ u ∷ []) canonical-nil

pub replay-canonical : (out l : List (List ℕ)) → list_all is_segment l ≡ true → replay (map canonical out) (map canonical l) ≡ map canonical (replay out l)
replay-canonical out [] h = refl
replay-canonical out (s ∷ []) h = rw (
  single-canonical s (and_parts _ _ h).0,
  double-canonical s (and_parts _ _ h).0,
) (by_kind (is_single_dot s) (is_double_dot s))
  where
    by_kind : (v w : Bool)
        → cond v (map canonical out ++ [] ∷ []) (cond w (all_but_last (map canonical out) ++ [] ∷ []) (map canonical out ++ canonical s ∷ []))
        ≡ map canonical (cond v (out ++ [] ∷ []) (cond w (all_but_last out ++ [] ∷ []) (out ++ s ∷ [])))
    by_kind true w = sym (push_empty-canonical out)
    by_kind false true = ap (λ u. u ++ [] ∷ []) (cut-canonical out) ∙ sym (push_empty-canonical (all_but_last out))
    by_kind false false = sym (push-canonical out s)
replay-canonical out (s ∷ r ∷ l) h =
    let both = and_parts (is_segment s) (list_all is_segment (r ∷ l)) h in
    rw (single-canonical s both.0, double-canonical s both.0)
    (by_kind (is_single_dot s) (is_double_dot s) (replay-canonical out (r ∷ l) both.1) (replay-canonical (all_but_last out) (r ∷ l) both.1)
    (replay-canonical (out ++ s ∷ []) (r ∷ l) both.1))
  where
    by_kind : (v w : Bool) → replay (map canonical out) (map canonical (r ∷ l)) ≡ map canonical (replay out (r ∷ l))
        → replay (map canonical (all_but_last out)) (map canonical (r ∷ l)) ≡ map canonical (replay (all_but_last out) (r ∷ l))
        → replay (map canonical (out ++ s ∷ [])) (map canonical (r ∷ l)) ≡ map canonical (replay (out ++ s ∷ []) (r ∷ l))
        → cond v (replay (map canonical out) (map canonical (r ∷ l)))
        (cond w (replay (all_but_last (map canonical out)) (map canonical (r ∷ l))) (replay (map canonical out ++ canonical s ∷ []) (map canonical (r ∷ l))))
        ≡ map canonical (cond v (replay out (r ∷ l)) (cond w (replay (all_but_last out) (r ∷ l)) (replay (out ++ s ∷ []) (r ∷ l))))
    by_kind true w x y z = x
    by_kind false true x y z = ap (λ u. replay u (map canonical (r ∷ l))) (cut-canonical out) ∙ y
    by_kind false false x y z = ap (λ u. replay u (map canonical (r ∷ l))) (sym (push-canonical out s)) ∙ z

pub rooted-canonical : (rooted : Bool) (out l : List (List ℕ)) → list_all is_segment l ≡ true
    → rooted_after rooted (map canonical out) (map canonical l) ≡ rooted_after rooted out l
rooted-canonical rooted out [] h = refl
rooted-canonical rooted out (s ∷ l) h =
    let both = and_parts (is_segment s) (list_all is_segment l) h in
    rw (single-canonical s both.0, double-canonical s both.0)
    (by_kind (is_single_dot s) (is_double_dot s) (rooted-canonical rooted out l both.1) (rooted-canonical (rooted || is_one out) (all_but_last out) l both.1)
    (rooted-canonical rooted (out ++ s ∷ []) l both.1))
  where
    by_kind : (v w : Bool) → rooted_after rooted (map canonical out) (map canonical l) ≡ rooted_after rooted out l
        → rooted_after (rooted || is_one out) (map canonical (all_but_last out)) (map canonical l) ≡ rooted_after (rooted || is_one out) (all_but_last out) l
        → rooted_after rooted (map canonical (out ++ s ∷ [])) (map canonical l) ≡ rooted_after rooted (out ++ s ∷ []) l
        → cond v (rooted_after rooted (map canonical out) (map canonical l))
        (cond w (rooted_after (rooted || is_one (map canonical out)) (all_but_last (map canonical out)) (map canonical l))
        (rooted_after rooted (map canonical out ++ canonical s ∷ []) (map canonical l)))
        ≡ cond v (rooted_after rooted out l) (cond w (rooted_after (rooted || is_one out) (all_but_last out) l) (rooted_after rooted (out ++ s ∷ []) l))
    by_kind true w x y z = x
    by_kind false true x y z = ap (λ u. rooted_after (rooted || u) (all_but_last (map canonical out)) (map canonical l)) (one-canonical out)
        ∙ ap (λ u. rooted_after (rooted || is_one out) u (map canonical l)) (cut-canonical out) ∙ y
    by_kind false false x y z = ap (λ u. rooted_after rooted u (map canonical l)) (sym (push-canonical out s)) ∙ z

pub replayed-canonical : (p : PathParts) → list_all is_segment p.segments ≡ true → replayed (canonical_path p) ≡ canonical_path (replayed p)
replayed-canonical p h =
    ap (λ v. record { absolute = v; segments = replay [] (map canonical p.segments) }) (rooted-canonical p.absolute [] p.segments h)
    ∙ ap (λ l. record { absolute = rooted_after p.absolute [] p.segments; segments = l }) (replay-canonical [] p.segments h)

-- a path that does not stay relative: first each segment, then the dots
pub pnormal_without_dots : (p : PathParts) (r : Bool) → IsListed p.segments → stays_relative p r ≡ false → without_dots (canonical_path p) ≡ pnormal p r
pnormal_without_dots p r is e = by_dots (has_dot_segment p.segments) refl
  where
    by_dots : (v : Bool) → has_dot_segment p.segments ≡ v → without_dots (canonical_path p) ≡ pnormal p r
    by_dots true k =
        ap (λ v. cond v (spelled (undot (text (canonical_path p)))) (canonical_path p)) (has_dot-canonical p.segments is.each ∙ k)
        ∙ spelled_undot (canonical_path p) (listed-canonical p.segments is)
        ∙ ap respelled (replayed-canonical p is.each)
        ∙ respelled-canonical (replayed p)
        ∙ sym (pnormal_dots p r e k ∙ spelled_canonical_undot p is)
    by_dots false k =
        ap (λ v. cond v (spelled (undot (text (canonical_path p)))) (canonical_path p)) (has_dot-canonical p.segments is.each ∙ k)
        ∙ sym (pnormal_plain p r e k)

-- ---- the relative normal form

put-canonical : (stack : List (List ℕ)) (s : List ℕ) → list_all is_segment stack ≡ true → is_segment s ≡ true
    → put (map canonical stack) (canonical s) ≡ map canonical (put stack s)
put-canonical [] s h k = rw (single-canonical s k) (elim (is_single_dot s) as (λ v. cond v [] (canonical s ∷ []) ≡ map canonical (cond v [] (s ∷ [])))
    [ true ↦ refl | false ↦ refl ])
put-canonical (t ∷ stack) s h k =
    rw (single-canonical s k, double-canonical s k, single-canonical t (and_parts _ _ h).0, double-canonical t (and_parts _ _ h).0)
    (by_kind (is_single_dot s) (is_double_dot s && not (is_dot_segment t)))
  where
    by_kind : (v w : Bool)
        → cond v (map canonical (t ∷ stack)) (cond w (map canonical stack) (canonical s ∷ canonical t ∷ map canonical stack))
        ≡ map canonical (cond v (t ∷ stack) (cond w stack (s ∷ t ∷ stack)))
    by_kind true w = refl
    by_kind false true = refl
    by_kind false false = refl

put_all-canonical : (stack l : List (List ℕ)) → list_all is_segment stack ≡ true → list_all is_segment l ≡ true
    → put_all (map canonical stack) (map canonical l) ≡ map canonical (put_all stack l)
put_all-canonical stack [] h k = refl
put_all-canonical stack (s ∷ l) h k =
    let both = and_parts (is_segment s) (list_all is_segment l) k in
    ap (λ u. put_all u (map canonical l)) (put-canonical stack s h both.0)
    ∙ put_all-canonical (put stack s) l (all_put is_segment empty_segment dot_segment stack s h both.0) both.1

reverse-canonical : (l : List (List ℕ)) → reverse (map canonical l) ≡ map canonical (reverse l)
reverse-canonical [] = refl
reverse-canonical (s ∷ l) = reverse-append (canonical s ∷ []) (map canonical l) ∙ ap (λ u. u ++ canonical s ∷ []) (reverse-canonical l)
    ∙ sym (ap (map canonical) (reverse-append (s ∷ []) l) ∙ push-canonical (reverse l) s)

pub reduced-canonical : (l : List (List ℕ)) → list_all is_segment l ≡ true → reduced (map canonical l) ≡ map canonical (reduced l)
reduced-canonical l h = ap reverse (put_all-canonical [] l refl h) ∙ reverse-canonical (put_all [] l)

pub last-canonical : (p : List ℕ → Bool) → ((s : List ℕ) → is_segment s ≡ true → p (canonical s) ≡ p s) → (l : List (List ℕ)) → list_all is_segment l ≡ true
    → is_last p (map canonical l) ≡ is_last p l
last-canonical p f [] h = refl
last-canonical p f (s ∷ []) h = f s (and_parts _ _ h).0
last-canonical p f (s ∷ r ∷ l) h = last-canonical p f (r ∷ l) (and_parts _ _ h).1

closed-canonical : (ended : Bool) (m : List (List ℕ)) → list_all is_segment m ≡ true → closed ended (map canonical m) ≡ map canonical (closed ended m)
closed-canonical ended [] h = refl
closed-canonical ended (s ∷ m) h =
    ap (λ v. cond (ended && not v) (map canonical (s ∷ m) ++ [] ∷ []) (map canonical (s ∷ m))) (last-canonical is_double_dot double-canonical (s ∷ m) h)
    ∙ by_test (ended && not (is_last is_double_dot (s ∷ m)))
  where
    by_test : (v : Bool) → cond v (map canonical (s ∷ m) ++ [] ∷ []) (map canonical (s ∷ m)) ≡ map canonical (cond v ((s ∷ m) ++ [] ∷ []) (s ∷ m))
    by_test true = sym (push_empty-canonical (s ∷ m))
    by_test false = refl

guarded_list-canonical : (old new : List (List ℕ)) → with_leading_dot (map canonical old) (map canonical new) ≡ map canonical (with_leading_dot old new)
guarded_list-canonical old new =
    ap (λ v. cond v ((dot ∷ []) ∷ map canonical new) (map canonical new)) (truncate_with_leading_dot-canonical old new) ∙ by_leading_dot (needs_leading_dot old new)
  where
    by_leading_dot : (v : Bool) → cond v ((dot ∷ []) ∷ map canonical new) (map canonical new) ≡ map canonical (cond v ((dot ∷ []) ∷ new) new)
    by_leading_dot true = ap (λ u. u ∷ map canonical new) (sym canonical-dot)
    by_leading_dot false = refl

filled-canonical : (l : List (List ℕ)) → filled (map canonical l) ≡ map canonical (filled l)
filled-canonical [] = ap (λ u. u ∷ []) (sym canonical-nil)
filled-canonical (s ∷ l) = refl

-- first each segment, then the deletions and both ends
pub shaped-canonical : (l : List (List ℕ)) → list_all is_segment l ≡ true → list_all is_segment (reduced l) ≡ true →
    shaped (map canonical l) ≡ relative_normal l
shaped-canonical l h k =
    ap (λ v. filled (with_leading_dot (map canonical l) (closed v (reduced (map canonical l))))) (last-canonical is_dot_segment dot-canonical l h)
    ∙ ap (λ m. filled (with_leading_dot (map canonical l) (closed (is_last is_dot_segment l) m))) (reduced-canonical l h)
    ∙ ap (λ m. filled (with_leading_dot (map canonical l) m)) (closed-canonical (is_last is_dot_segment l) (reduced l) k)
    ∙ ap filled (guarded_list-canonical l (closed (is_last is_dot_segment l) (reduced l)))
    ∙ filled-canonical (with_leading_dot l (closed (is_last is_dot_segment l) (reduced l)))
    ∙ sym (relative_is l)

-- ---- canonical spelling does not change the result

pub canonical_twice : (l : List (List ℕ)) → list_all is_segment l ≡ true → map canonical (map canonical l) ≡ map canonical l
canonical_twice l h = all_canonical_same (map canonical l) (all_canonical-canonical l h)

pub undot-canonical : (t : List ℕ) → IsPath t → undot (canonical t) ≡ canonical (undot t)
undot-canonical t is =
    ap (λ u. undot (canonical u)) (sym (text-spelled t))
    ∙ ap undot (canonical-text (spelled t) is)
    ∙ undot_path (canonical_path (spelled t)) (listed-canonical (pieces t) is)
    ∙ ap text (replayed-canonical (spelled t) is.each)
    ∙ sym (canonical-text (replayed (spelled t)) (listed_replayed (spelled t) is))
    ∙ ap canonical (sym (undot_path (spelled t) is))
    ∙ ap (λ u. canonical (undot u)) (text-spelled t)

relative-canonical : (l : List (List ℕ)) → list_all is_segment l ≡ true → relative_normal (map canonical l) ≡ relative_normal l
relative-canonical l h =
    relative_is (map canonical l)
    ∙ ap (map canonical) (shaped-canonical l h (each_reduced l h) ∙ relative_is l)
    ∙ canonical_twice (shaped l) (each_shaped l h)
    ∙ sym (relative_is l)

pub stays-canonical : (p : PathParts) (r : Bool) → IsListed p.segments → stays_relative (canonical_path p) r ≡ stays_relative p r
stays-canonical p r is = ap (λ v. r && not v) (ap is_rooted (sym (canonical-text p is)) ∙ is_rooted-canonical (text p))

undotted_twice : (p : PathParts) → IsListed p.segments → canonical (canonical (undot (text p))) ≡ canonical (undot (text p))
undotted_twice p is =
    let spelled_text : canonical (undot (text p)) ≡ text (canonical_path (replayed p)) = ap canonical (undot_path p is)
    ∙ canonical-text (replayed p) (listed_replayed p is) in
    ap canonical spelled_text
    ∙ canonical-text (canonical_path (replayed p)) (listed-canonical (replay [] p.segments) (listed_replayed p is))
    ∙ ap (λ l. text (record { absolute = (replayed p).absolute; segments = l })) (canonical_twice (replay [] p.segments) (listed_replayed p is).each)
    ∙ sym spelled_text

pub pnormal-canonical : (p : PathParts) (r : Bool) → IsListed p.segments → pnormal (canonical_path p) r ≡ pnormal p r
pnormal-canonical p r is = by_tests (stays_relative p r) refl (has_dot_segment p.segments) refl
  where
    by_tests : (v : Bool) → stays_relative p r ≡ v → (w : Bool) → has_dot_segment p.segments ≡ w → pnormal (canonical_path p) r ≡ pnormal p r
    by_tests true e w k =
        pnormal_relative (canonical_path p) r (stays-canonical p r is ∙ e)
        ∙ ap (λ l. record { absolute = false; segments = l }) (relative-canonical p.segments is.each)
        ∙ sym (pnormal_relative p r e)
    by_tests false e true k =
        pnormal_dots (canonical_path p) r (stays-canonical p r is ∙ e) (has_dot-canonical p.segments is.each ∙ k)
        ∙ ap (λ u. spelled (canonical (undot u))) (sym (canonical-text p is))
        ∙ ap (λ u. spelled (canonical u)) (undot-canonical (text p) (is_path-text p is))
        ∙ ap spelled (undotted_twice p is)
        ∙ sym (pnormal_dots p r e k)
    by_tests false e false k =
        pnormal_plain (canonical_path p) r (stays-canonical p r is ∙ e) (has_dot-canonical p.segments is.each ∙ k)
        ∙ ap (λ l. record { absolute = p.absolute; segments = l }) (canonical_twice p.segments is.each)
        ∙ sym (pnormal_plain p r e k)
