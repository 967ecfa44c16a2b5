-- The segments that ".." remove.
use Rattle.std.proofs.Common.{◌≡◌, ℕ, zero, suc, ◌+◌, ◌<◌, Bool, true, false, cond, List, [], ◌∷◌, ◌++◌, map, refl, sym, ap, ◌∙◌, arith, ◌||◌}
use Rattle.std.specs.List.{list_all, list_any}
use Rattle.std.proofs.lemmas.Bool.{false≢true, or_from, or_parts}
use Rattle.std.proofs.lemmas.List.{map-append}
use Rattle.std.proofs.lemmas.List.Folds.{list_any-append}
use Rattle.std.proofs.Math.Bool.{or-false, or-true}
use Rattle.uriparse_text.specs.Canonical.{canonical}
use Rattle.uriparse_text.specs.Segment.{is_segment}
use Rattle.uriparse_path.specs.Dots.{has_dot_segment, is_dot_segment, is_double_dot, is_single_dot}
use Rattle.uriparse_path.specs.Remaining.{Remaining, process_all, process_one, process_plain, remaining_of}
use Rattle.uriparse_path.specs.Within.{is_unclear, onto_removed, removed_from, removed_segments}
use Rattle.uriparse_path.proofs.lemmas.dots.DotSegmentLemmas.{dot-canonical, double-canonical, single-canonical}
use Rattle.uriparse_path.proofs.lemmas.left.BackwardLemmas.{process_all-append}
use Rattle.uriparse_path.proofs.lemmas.normal.RelativeFormLemmas.{has_dot-canonical}

-- ---- the last segment

onto-append : (s : List ℕ) (n : ℕ) (xs ys : List (List ℕ)) → onto_removed s n (xs ++ ys) ≡ onto_removed s n xs ++ ys
onto-append s zero xs ys = refl
onto-append s (suc n) xs ys = by_dot (is_dot_segment s)
  where
    by_dot : (v : Bool) → cond v (xs ++ ys) (s ∷ (xs ++ ys)) ≡ cond v xs (s ∷ xs) ++ ys
    by_dot true = refl
    by_dot false = refl

removed-push : (l : Remaining) (ss : List (List ℕ)) (s : List ℕ)
    → removed_from l (ss ++ s ∷ []) ≡ removed_from (process_one s l) ss ++ onto_removed s l.double_dots []
removed-push l [] s = refl
removed-push l (r ∷ ss) s =
    let rest : Remaining = process_all ss (process_one s l) in
    ap (λ (k : Remaining). onto_removed r k.double_dots (removed_from l (ss ++ s ∷ []))) (process_all-append ss (s ∷ []) l)
    ∙ ap (onto_removed r rest.double_dots) (removed-push l ss s)
    ∙ onto-append r rest.double_dots (removed_from (process_one s l) ss) (onto_removed s l.double_dots [])

-- an unclear one is among those before the last segment, or is this
pub removed_step : (l : Remaining) (left front : List (List ℕ)) (last : List ℕ) (n : ℕ) → left ≡ front ++ last ∷ [] → l.double_dots ≡ n
    → list_any is_unclear (removed_from l (map canonical left))
    ≡ (list_any is_unclear (removed_from (process_one (canonical last) l) (map canonical front)) || list_any is_unclear (onto_removed (canonical last) n []))
removed_step l left front last n e w =
    let others = removed_from (process_one (canonical last) l) (map canonical front) in
    ap (λ x. list_any is_unclear (removed_from l x)) (ap (map canonical) e ∙ map-append canonical front (last ∷ []))
    ∙ ap (list_any is_unclear) (removed-push l (map canonical front) (canonical last))
    ∙ list_any-append is_unclear others (onto_removed (canonical last) l.double_dots [])
    ∙ ap (λ k. list_any is_unclear others || list_any is_unclear (onto_removed (canonical last) k [])) w

pub removed_here : (l : Remaining) (left front : List (List ℕ)) (last : List ℕ) (n : ℕ) (r : Bool) → left ≡ front ++ last ∷ [] → l.double_dots ≡ n
    → r ≡ list_any is_unclear (onto_removed (canonical last) n []) → r ≡ true → list_any is_unclear (removed_from l (map canonical left)) ≡ true
removed_here l left front last n r e w is h =
    let others = removed_from (process_one (canonical last) l) (map canonical front) in
    removed_step l left front last n e w ∙ ap (λ v. list_any is_unclear others || v) (sym is ∙ h) ∙ or-true (list_any is_unclear others)

pub removed_before : (l : Remaining) (left front : List (List ℕ)) (last : List ℕ) (n : ℕ) (r : Bool) → left ≡ front ++ last ∷ [] → l.double_dots ≡ n
    → r ≡ list_any is_unclear (onto_removed (canonical last) n []) → r ≡ false
    → list_any is_unclear (removed_from (process_one (canonical last) l) (map canonical front)) ≡ list_any is_unclear (removed_from l (map canonical left))
removed_before l left front last n r e w is h =
    let others = removed_from (process_one (canonical last) l) (map canonical front) in
    sym (removed_step l left front last n e w ∙ ap (λ v. list_any is_unclear others || v) (sym is ∙ h) ∙ or-false (list_any is_unclear others))

-- ---- one segment

pub single_before : (s : List ℕ) (l : Remaining) (n : ℕ) → is_segment s ≡ true → l.double_dots ≡ n → is_single_dot s ≡ true
    → (process_one (canonical s) l).double_dots ≡ n
single_before s l n is w h =
    ap (λ v. (cond v l (cond (is_double_dot (canonical s)) (record { double_dots = suc l.double_dots; kept = l.kept; removed = l.removed })
    (process_plain (canonical s) l.double_dots l))).double_dots) (single-canonical s is ∙ h)
    ∙ w

pub double_before : (s : List ℕ) (l : Remaining) (n : ℕ) → is_segment s ≡ true → l.double_dots ≡ n → is_single_dot s ≡ false → is_double_dot s ≡ true
    → (process_one (canonical s) l).double_dots ≡ n + 1
double_before s l n is w h k =
    ap (λ v. (cond v l (cond (is_double_dot (canonical s)) (record { double_dots = suc l.double_dots; kept = l.kept; removed = l.removed })
    (process_plain (canonical s) l.double_dots l))).double_dots) (single-canonical s is ∙ h)
    ∙ ap (λ v. (cond v (record { double_dots = suc l.double_dots; kept = l.kept; removed = l.removed })
    (process_plain (canonical s) l.double_dots l)).double_dots) (double-canonical s is ∙ k)
    ∙ omega (arith, w)

pub other_before : (s : List ℕ) (l : Remaining) (n m : ℕ) → is_segment s ≡ true → l.double_dots ≡ n → is_single_dot s ≡ false → is_double_dot s ≡ false
    → (n ≡ 0 → m ≡ 0) → (0 < n → m + 1 ≡ n) → (process_one (canonical s) l).double_dots ≡ m
other_before s l n m is w h k none some =
    ap (λ v. (cond v l (cond (is_double_dot (canonical s)) (record { double_dots = suc l.double_dots; kept = l.kept; removed = l.removed })
    (process_plain (canonical s) l.double_dots l))).double_dots) (single-canonical s is ∙ h)
    ∙ ap (λ v. (cond v (record { double_dots = suc l.double_dots; kept = l.kept; removed = l.removed })
    (process_plain (canonical s) l.double_dots l)).double_dots) (double-canonical s is ∙ k)
    ∙ by_count l.double_dots w
  where
    by_count : (c : ℕ) → c ≡ n → (process_plain (canonical s) c l).double_dots ≡ m
    by_count zero e = sym (none (sym e))
    by_count (suc c) e = let one = some (omega (arith, e)) in omega (arith, one, e)

pub none_here : (s : List ℕ) (n : ℕ) → is_segment s ≡ true → (n ≡ 0) → list_any is_unclear (onto_removed (canonical s) n []) ≡ false
none_here s n is e = ap (λ k. list_any is_unclear (onto_removed (canonical s) k [])) e

pub dot_here : (s : List ℕ) (n : ℕ) → is_segment s ≡ true → is_dot_segment s ≡ true → list_any is_unclear (onto_removed (canonical s) n []) ≡ false
dot_here s zero is e = refl
dot_here s (suc n) is e = ap (λ v. list_any is_unclear (cond v [] (canonical s ∷ []))) (dot-canonical s is ∙ e)

pub other_here : (s : List ℕ) (n : ℕ) → is_segment s ≡ true → 0 < n → is_dot_segment s ≡ false
    → list_any is_unclear (onto_removed (canonical s) n []) ≡ is_unclear (canonical s)
other_here s zero is some e = absurd (omega (arith, some))
other_here s (suc n) is some e = ap (λ v. list_any is_unclear (cond v [] (canonical s ∷ []))) (dot-canonical s is ∙ e) ∙ or-false (is_unclear (canonical s))

-- ---- segments without ".."

none_wait : (ss : List (List ℕ)) → list_any is_double_dot ss ≡ false → (remaining_of ss).double_dots ≡ 0
none_wait [] h = refl
none_wait (s ∷ ss) h =
    let both = or_parts (is_double_dot s) (list_any is_double_dot ss) h in by_kind (is_single_dot s) (is_double_dot s) both.0 (none_wait ss both.1)
  where
    by_kind : (v w : Bool) → w ≡ false → (remaining_of ss).double_dots ≡ 0
        → (cond v (remaining_of ss) (cond w (record { double_dots = suc (remaining_of ss).double_dots; kept = (remaining_of ss).kept; removed = (remaining_of ss).removed })
        (process_plain s (remaining_of ss).double_dots (remaining_of ss)))).double_dots ≡ 0
    by_kind true w e k = k
    by_kind false true e k = absurd (false≢true (sym e))
    by_kind false false e k = ap (λ n. (process_plain s n (remaining_of ss)).double_dots) k

pub none_removed : (ss : List (List ℕ)) → list_any is_double_dot ss ≡ false → removed_segments ss ≡ []
none_removed [] h = refl
none_removed (s ∷ ss) h =
    let both = or_parts (is_double_dot s) (list_any is_double_dot ss) h in
    ap (λ n. onto_removed s n (removed_segments ss)) (none_wait ss both.1) ∙ none_removed ss both.1

pub no_double : (ss : List (List ℕ)) → has_dot_segment ss ≡ false → list_any is_double_dot ss ≡ false
no_double [] h = refl
no_double (s ∷ ss) h =
    let both = or_parts (is_dot_segment s) (has_dot_segment ss) h in
    or_from (is_double_dot s) (list_any is_double_dot ss) (or_parts (is_single_dot s) (is_double_dot s) both.0).1 (no_double ss both.1)

-- a path without dot segments
pub plain_removes : (ss : List (List ℕ)) → list_all is_segment ss ≡ true → has_dot_segment ss ≡ false
    → list_any is_unclear (removed_segments (map canonical ss)) ≡ false
plain_removes ss is h = ap (list_any is_unclear) (none_removed (map canonical ss) (no_double (map canonical ss) (has_dot-canonical ss is ∙ h)))
