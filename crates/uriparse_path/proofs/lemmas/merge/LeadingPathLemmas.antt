-- The relative path that leads from a base's path to another one.
use Rattle.std.proofs.Common.{◌≡◌, ℕ, zero, suc, ◌+◌, ◌-◌, ◌<◌, ◌≤◌, Bool, true, false, eqb, ◌&&◌, ◌||◌, not, cond, List, [], ◌∷◌, ◌++◌, length, take, drop, get_or, Option, Some, None}
use Rattle.std.proofs.Common.{refl, sym, ap, ◌∙◌, subst, arith, append_assoc, append-nil, length-append}
use Rattle.std.specs.Prelude.{bytes_eq, nat_le}
use Rattle.std.specs.List.{list_all}
use Rattle.std.proofs.Math.Seq.{drop-cons, take-suc}
use Rattle.std.proofs.lemmas.Bool.{false≢true, or_parts, and_from, and_parts, lt-ltb, le-ltb, ltb-true, not-true, leb-true, leb-false}
use Rattle.std.proofs.lemmas.List.{map-append, drop_all, take-append-le}
use Rattle.std.proofs.lemmas.Slice.Eq.{bytes_eq-Decides}
use Rattle.uriparse_text.specs.Bytes.{dot}
use Rattle.uriparse_text.specs.Tokens.{tokens}
use Rattle.uriparse_text.specs.Canonical.{canonical_in}
use Rattle.uriparse_text.specs.Classes.{is_plain}
use Rattle.uriparse_text.specs.Bytes.{is_unreserved}
use Rattle.uriparse_path.specs.declared.path.TheConstants.{MAX_SEGMENTS}
use Rattle.uriparse_text.specs.Segment.{is_segment}
use Rattle.uriparse_path.specs.Path.{PathParts, IsListed, max_segments, starts_with_empty_segment}
use Rattle.uriparse_path.specs.Dots.{is_single_dot, is_double_dot, is_dot_segment, has_dot_segment, all_but_last, replay, rooted_after, is_one}
use Rattle.uriparse_path.specs.Relative.{is_first, has_colon}
use Rattle.uriparse_path.specs.Relate.{double_dots, apart, is_taken, fronted, apart_of, stays_below, have_one_root, may_lead, has_room, leading, double_dots_in}
use Rattle.uriparse_path.specs.Merge.{merged}
use Rattle.uriparse_path.proofs.lemmas.reading.ReadingLemmas.{limit_is}
use Rattle.uriparse_text.proofs.lemmas.canonical.DotLemmas.{empty_segment}
use Rattle.uriparse_path.proofs.lemmas.dots.DotSegmentLemmas.{dot_single, neither, not_both}
use Rattle.uriparse_path.proofs.lemmas.dots.ReplayLemmas.{once_rooted}
use Rattle.uriparse_path.proofs.lemmas.normal.NormalFormLemmas.{replay_kept, rooted_kept}
use Rattle.uriparse_path.proofs.lemmas.merge.MergedNormalFormLemmas.{step_plain, step_double, walk, some_after, replay_more, replay-append, all_but_last_push, dot_gone, walk_plain}

pub dots_segment : is_segment (dot ∷ dot ∷ []) ≡ true
unfolding tokens is_plain is_unreserved
dots_segment = refl

dot_segment : is_segment (dot ∷ []) ≡ true
unfolding tokens is_plain is_unreserved
dot_segment = refl

double : is_double_dot (dot ∷ dot ∷ []) ≡ true
unfolding is_double_dot canonical_in tokens
double = refl

pub double_dots_untaken : (ds ss : List (List ℕ)) → eqb (length ds) 0 ≡ false → is_first is_taken (double_dots ds ++ ss) ≡ false
double_dots_untaken [] ss h = absurd (false≢true (sym h))
double_dots_untaken (d ∷ ds) ss h = refl

pub listed_empty : IsListed ([] ∷ [])
listed_empty = record { some = omega arith; short = subst (λ m. 1 ≤ m) limit_is (omega arith); each = and_from _ _ empty_segment refl }

-- ---- the walk over both lists

apart_last : (ds : List (List ℕ)) (s : List ℕ) → apart ds (s ∷ []) ≡ double_dots ds ++ s ∷ []
apart_last [] s = refl
apart_last (d ∷ ds) s = refl

-- the last segment is not a directory
pub shared_last : (ds ss : List (List ℕ)) (n : ℕ) → n + 1 ≡ length ss → apart (drop n ds) (drop n ss) ≡ double_dots (drop n ds) ++ drop n ss
shared_last ds ss n h =
    let ends : drop (suc n) ss ≡ [] = drop_all (suc n) ss (omega arith) in
    let only : drop n ss ≡ get_or ss n [] ∷ [] = drop-cons ss n [] (omega arith) ∙ ap (λ u. get_or ss n [] ∷ u) ends in
    ap (apart (drop n ds)) only ∙ apart_last (drop n ds) (get_or ss n []) ∙ ap (λ u. double_dots (drop n ds) ++ u) (sym only)

-- one more segment is the same
pub same_more : (left right : List (List ℕ)) (n : ℕ) → length left ≡ length right → n < length left → take n left ≡ take n right
    → bytes_eq (get_or left n []) (get_or right n []) ≡ true → take (n + 1) left ≡ take (n + 1) right
same_more left right n e h is same =
    ap (λ m. take m left) (next n) ∙ take-suc left n [] h
    ∙ ap (λ u. u ++ get_or left n [] ∷ []) is
    ∙ ap (λ x. take n right ++ x ∷ []) ((bytes_eq-Decides (get_or left n []) (get_or right n [])).0 same)
    ∙ sym (ap (λ m. take m right) (next n) ∙ take-suc right n [] (omega (arith, e, h)))
  where
    next : (n : ℕ) → n + 1 ≡ suc n
    next n = omega arith

-- one more directory is left
pub double_dots_more : (ds : List (List ℕ)) (n : ℕ) → n < length ds → double_dots (take (n + 1) ds) ≡ double_dots (take n ds) ++ (dot ∷ dot ∷ []) ∷ []
double_dots_more ds n h =
    ap (λ m. double_dots (take m ds)) (next n) ∙ ap double_dots (take-suc ds n [] h) ∙ map-append (λ d. dot ∷ dot ∷ []) (take n ds) (get_or ds n [] ∷ [])
  where
    next : (n : ℕ) → n + 1 ≡ suc n
    next n = omega arith

-- ---- what is returned, by the code's lists

module _ (b t : PathParts) (whole front own : List (List ℕ)) (n : ℕ) (base : whole ≡ b.segments) (cut : front ≡ all_but_last whole)
    (following : own ≡ t.segments) (is : apart front own ≡ double_dots (drop n front) ++ drop n own) where
  apart_is : apart_of b t ≡ double_dots (drop n front) ++ drop n own
  apart_is = ap (λ w. apart (all_but_last w) t.segments) (sym base) ∙ ap (λ d. apart d t.segments) (sym cut) ∙ ap (apart front) (sym following) ∙ is

  length-double_dots : (ds : List (List ℕ)) → length (double_dots ds) ≡ length ds
  length-double_dots [] = refl
  length-double_dots (d ∷ ds) = ap suc (length-double_dots ds)

  length_is : length (all_but_last b.segments) + length (apart_of b t) ≡ length front + (length (drop n front) + length (drop n own))
  length_is =
      let e : length (all_but_last b.segments) ≡ length front = ap (λ w. length (all_but_last w)) (sym base) ∙ ap length (sym cut) in
      let f : length (apart_of b t) ≡ length (drop n front) + length (drop n own) =
      ap length apart_is ∙ length-append (double_dots (drop n front)) (drop n own) ∙ ap (λ k. k + length (drop n own)) (length-double_dots (drop n front)) in
      ap (λ k. k + length (apart_of b t)) e ∙ ap (λ k. length front + k) f

  pub no_room : MAX_SEGMENTS ≤ length front + (length (drop n front) + length (drop n own)) → leading b t ≡ None
  no_room h =
      let e : has_room b t ≡ false =
      le-ltb _ max_segments (subst (λ k. max_segments ≤ k) (sym length_is) (subst (λ m. m ≤ length front + (length (drop n front) + length (drop n own))) limit_is h)) in
      ap (λ v. cond (may_lead b t && v) (Some (record { absolute = false; segments = fronted (apart_of b t) })) None) e ∙ by_test (may_lead b t)
    where
      by_test : (v : Bool) → cond {A = Option PathParts} (v && false) (Some (record { absolute = false; segments = fronted (apart_of b t) })) None ≡ None
      by_test true = refl
      by_test false = refl

  pub led_room : length front + (length (drop n front) + length (drop n own)) < MAX_SEGMENTS → has_room b t ≡ true
  led_room h =
      lt-ltb _ max_segments (subst (λ k. k < max_segments) (sym length_is) (subst (λ m. length front + (length (drop n front) + length (drop n own)) < m) limit_is h))

  pub led_path : (made : PathParts) (list left rest : List (List ℕ)) → may_lead b t ≡ true → length front + (length (drop n front) + length (drop n own)) < MAX_SEGMENTS
      → left ≡ drop n front → rest ≡ drop n own → list ≡ fronted (double_dots left ++ rest) → made ≡ record { absolute = false; segments = list } → Some made ≡ leading b t
  led_path made list left rest h k e f g i =
      let same : list ≡ fronted (apart_of b t) =
      g ∙ ap (λ u. fronted (double_dots u ++ rest)) e ∙ ap (λ u. fronted (double_dots (drop n front) ++ u)) f ∙ ap fronted (sym apart_is) in
      ap Some (i ∙ ap (λ l. record { absolute = false; segments = l }) same)
      ∙ sym (ap (λ v. cond {A = Option PathParts} v (Some (record { absolute = false; segments = fronted (apart_of b t) })) None)
      (and_from _ _ h (led_room k)))

-- the first segment is not read as a slash, as an empty path or as a scheme
pub record IsFirstPlain (ss : List (List ℕ)) : Type 0 where
  pub shown : starts_with_empty_segment ss ≡ false
  pub no_colon : is_first has_colon ss ≡ false
  pub not_empty : is_first is_taken ss ≡ false

first_plain : (ss : List (List ℕ)) → IsFirstPlain (fronted ss)
first_plain [] = record { shown = refl; no_colon = refl; not_empty = refl }
first_plain ([] ∷ ss) = record { shown = refl; no_colon = refl; not_empty = refl }
first_plain ((b ∷ s) ∷ ss) = by_test (has_colon (b ∷ s)) refl
  where
    by_test : (v : Bool) → has_colon (b ∷ s) ≡ v → IsFirstPlain (cond v ((dot ∷ []) ∷ (b ∷ s) ∷ ss) ((b ∷ s) ∷ ss))
    by_test true e = record { shown = refl; no_colon = refl; not_empty = refl }
    by_test false e = record { shown = refl; no_colon = e; not_empty = e }

-- its length
length-fronted : (ss : List (List ℕ)) → length (fronted ss) ≤ length ss + 1
length-fronted ss = by_test (is_first is_taken ss)
  where
    by_test : (v : Bool) → length (cond v ((dot ∷ []) ∷ ss) ss) ≤ length ss + 1
    by_test true = omega arith
    by_test false = omega arith

fronted_some : (ss : List (List ℕ)) → 0 < length ss → 0 < length (fronted ss)
fronted_some ss h = by_test (is_first is_taken ss)
  where
    by_test : (v : Bool) → 0 < length (cond v ((dot ∷ []) ∷ ss) ss)
    by_test true = omega arith
    by_test false = h

apart_some : (ds ss : List (List ℕ)) → 0 < length ss → 0 < length (apart ds ss)
apart_some ds [] h = absurd (omega arith)
apart_some [] (s ∷ ss) h = omega arith
apart_some (d ∷ ds) (s ∷ []) h = omega arith
apart_some (d ∷ ds) (s ∷ r ∷ ss) h = by_test (bytes_eq d s) (apart_some ds (r ∷ ss) (omega arith))
  where
    by_test : (v : Bool) → 0 < length (apart ds (r ∷ ss)) → 0 < length (cond v (apart ds (r ∷ ss)) (double_dots (d ∷ ds) ++ s ∷ r ∷ ss))
    by_test true k = k
    by_test false k = omega arith

each_climb : (ds ss : List (List ℕ)) → list_all is_segment ss ≡ true → list_all is_segment (double_dots ds ++ ss) ≡ true
each_climb [] ss h = h
each_climb (d ∷ ds) ss h = and_from _ _ dots_segment (each_climb ds ss h)

each_apart : (ds ss : List (List ℕ)) → list_all is_segment ss ≡ true → list_all is_segment (apart ds ss) ≡ true
each_apart [] ss h = h
each_apart (d ∷ ds) [] h = subst (λ l. list_all is_segment l ≡ true) (append-nil (double_dots (d ∷ ds))) (each_climb (d ∷ ds) [] refl)
each_apart (d ∷ ds) (s ∷ []) h = each_climb (d ∷ ds) (s ∷ []) h
each_apart (d ∷ ds) (s ∷ r ∷ ss) h = by_test (bytes_eq d s) (each_apart ds (r ∷ ss) (and_parts (is_segment s) (list_all is_segment (r ∷ ss)) h).1)
  where
    by_test : (v : Bool) → list_all is_segment (apart ds (r ∷ ss)) ≡ true → list_all is_segment (cond v (apart ds (r ∷ ss)) (double_dots (d ∷ ds) ++ s ∷ r ∷ ss)) ≡ true
    by_test true k = k
    by_test false k = each_climb (d ∷ ds) (s ∷ r ∷ ss) h

each_fronted : (ss : List (List ℕ)) → list_all is_segment ss ≡ true → list_all is_segment (fronted ss) ≡ true
each_fronted ss h = by_test (is_first is_taken ss)
  where
    by_test : (v : Bool) → list_all is_segment (cond v ((dot ∷ []) ∷ ss) ss) ≡ true
    by_test true = and_from _ _ dot_segment h
    by_test false = h

-- what leads to a path has a path's segments
pub listed_leading : (b t p : PathParts) → IsListed t.segments → leading b t ≡ Some p → IsListed p.segments
listed_leading b t p is h = by_test (may_lead b t) (has_room b t) refl h
  where
    made : has_room b t ≡ true → IsListed (fronted (apart_of b t))
    made e =
        let room = ltb-true _ max_segments e in
        let long = length-fronted (apart_of b t) in
        record {
          some = fronted_some (apart_of b t) (apart_some (all_but_last b.segments) t.segments is.some);
          short = omega (arith, room, long);
          each = each_fronted (apart_of b t) (each_apart (all_but_last b.segments) t.segments is.each);
        }

    by_test : (v w : Bool) → has_room b t ≡ w → cond (v && w) (Some (record { absolute = false; segments = fronted (apart_of b t) })) None ≡ Some p → IsListed p.segments
    by_test true true e k =
        let same : record { absolute = false; segments = fronted (apart_of b t) } ≡ p = cc in
        subst (λ q. IsListed q.segments) same (made e)
    by_test true false e k = let bad : ◌≡◌ {A = Option PathParts} None (Some p) = k in absurd (cc)
    by_test false w e k = let bad : ◌≡◌ {A = Option PathParts} None (Some p) = k in absurd (cc)

-- ---- merged with the base's directory it leads to the path

climb_shift : (ds rest : List (List ℕ)) → (dot ∷ dot ∷ []) ∷ (double_dots ds ++ rest) ≡ double_dots ds ++ (dot ∷ dot ∷ []) ∷ rest
climb_shift [] rest = refl
climb_shift (d ∷ ds) rest = ap (λ u. (dot ∷ dot ∷ []) ∷ u) (climb_shift ds rest)

-- directories, and ".." for each
replay_double_dots : (out ds rest : List (List ℕ)) → has_dot_segment ds ≡ false → 0 < length rest → replay out (ds ++ (double_dots ds ++ rest)) ≡ replay out rest
replay_double_dots out [] rest h n = refl
replay_double_dots out (d ∷ ds) rest h n =
    let parts = or_parts (is_dot_segment d) (has_dot_segment ds) h in
    let shifted = climb_shift ds rest in
    ap (λ u. replay out (d ∷ (ds ++ u))) shifted
    ∙ replay_more out d (ds ++ (double_dots ds ++ (dot ∷ dot ∷ []) ∷ rest))
    (some_after ds (double_dots ds ++ (dot ∷ dot ∷ []) ∷ rest) (some_after (double_dots ds) ((dot ∷ dot ∷ []) ∷ rest) (omega arith)))
    ∙ ap (λ u. replay u (ds ++ (double_dots ds ++ (dot ∷ dot ∷ []) ∷ rest))) (step_plain out d parts.0)
    ∙ replay_double_dots (out ++ d ∷ []) ds ((dot ∷ dot ∷ []) ∷ rest) parts.1 (omega arith)
    ∙ replay_more (out ++ d ∷ []) (dot ∷ dot ∷ []) rest n
    ∙ ap (λ u. replay u rest) (step_double (out ++ d ∷ []) (dot ∷ dot ∷ []) double ∙ all_but_last_push out d)

replay_apart : (out ds ss : List (List ℕ)) → has_dot_segment ds ≡ false → has_dot_segment ss ≡ false → 0 < length ss → replay out (ds ++ apart ds ss) ≡ out ++ ss
replay_apart out ds [] h k n = absurd (omega arith)
replay_apart out [] (s ∷ ss) h k n = replay_kept out (s ∷ ss) k
replay_apart out (d ∷ ds) (s ∷ []) h k n = replay_double_dots out (d ∷ ds) (s ∷ []) h n ∙ replay_kept out (s ∷ []) k
replay_apart out (d ∷ ds) (s ∷ r ∷ ss) h k n =
    by_test (bytes_eq d s) refl (replay_apart (out ++ d ∷ []) ds (r ∷ ss) parts.1 (or_parts (is_dot_segment s) (has_dot_segment (r ∷ ss)) k).1 (omega arith))
  where
    parts : (is_dot_segment d ≡ false) × (has_dot_segment ds ≡ false)
    parts = or_parts (is_dot_segment d) (has_dot_segment ds) h

    by_test : (v : Bool) → bytes_eq d s ≡ v → replay (out ++ d ∷ []) (ds ++ apart ds (r ∷ ss)) ≡ (out ++ d ∷ []) ++ r ∷ ss
        → replay out ((d ∷ ds) ++ cond v (apart ds (r ∷ ss)) (double_dots (d ∷ ds) ++ s ∷ r ∷ ss)) ≡ out ++ s ∷ r ∷ ss
    by_test true e f =
        replay_more out d (ds ++ apart ds (r ∷ ss)) (some_after ds (apart ds (r ∷ ss)) (apart_some ds (r ∷ ss) (omega arith)))
        ∙ ap (λ u. replay u (ds ++ apart ds (r ∷ ss))) (step_plain out d parts.0)
        ∙ f
        ∙ append_assoc out (d ∷ []) (r ∷ ss)
        ∙ ap (λ x. out ++ x ∷ r ∷ ss) ((bytes_eq-Decides d s).0 e)
    by_test false e f = replay_double_dots out (d ∷ ds) (s ∷ r ∷ ss) h (omega arith) ∙ replay_kept out (s ∷ r ∷ ss) k

replay_fronted : (out ds new : List (List ℕ)) → 0 < length new → replay out (ds ++ fronted new) ≡ replay out (ds ++ new)
replay_fronted out ds new h = by_test (is_first is_taken new)
  where
    by_test : (v : Bool) → replay out (ds ++ cond v ((dot ∷ []) ∷ new) new) ≡ replay out (ds ++ new)
    by_test true =
        replay-append out ds ((dot ∷ []) ∷ new) (omega arith)
        ∙ dot_gone (walk out ds) new h
        ∙ sym (replay-append out ds new h)
    by_test false = refl

-- ---- whether a slash comes first then

rooted_step : (a : Bool) (out : List (List ℕ)) (s : List ℕ) (l : List (List ℕ)) → is_dot_segment s ≡ false
    → rooted_after a out (s ∷ l) ≡ rooted_after a (out ++ s ∷ []) l
rooted_step a out s l h = let n = neither s h in rw (n.0, n.1) refl

rooted_double : (a : Bool) (out : List (List ℕ)) (s : List ℕ) (l : List (List ℕ)) → is_double_dot s ≡ true
    → rooted_after a out (s ∷ l) ≡ rooted_after (a || is_one out) (all_but_last out) l
rooted_double a out s l h = rw (not_both s h, h) refl

is_one_not : (out : List (List ℕ)) (s : List ℕ) → 0 < length out → is_one (out ++ s ∷ []) ≡ false
is_one_not [] s h = absurd (omega arith)
is_one_not (r ∷ []) s h = refl
is_one_not (r ∷ q ∷ out) s h = refl

or_not : (a : Bool) → (a || false) ≡ a
or_not true = refl
or_not false = refl

some_push : (out : List (List ℕ)) (s : List ℕ) → 0 < length (out ++ s ∷ [])
some_push out s = some_after out (s ∷ []) (omega arith)

rooted_double_dots : (a : Bool) (out ds rest : List (List ℕ)) → 0 < length out → has_dot_segment ds ≡ false
    → rooted_after a out (ds ++ (double_dots ds ++ rest)) ≡ rooted_after a out rest
rooted_double_dots a out [] rest n h = refl
rooted_double_dots a out (d ∷ ds) rest n h =
    let parts = or_parts (is_dot_segment d) (has_dot_segment ds) h in
    ap (λ u. rooted_after a out (d ∷ (ds ++ u))) (climb_shift ds rest)
    ∙ rooted_step a out d (ds ++ (double_dots ds ++ (dot ∷ dot ∷ []) ∷ rest)) parts.0
    ∙ rooted_double_dots a (out ++ d ∷ []) ds ((dot ∷ dot ∷ []) ∷ rest) (some_push out d) parts.1
    ∙ rooted_double a (out ++ d ∷ []) (dot ∷ dot ∷ []) rest double
    ∙ ap (λ v. rooted_after (a || v) (all_but_last (out ++ d ∷ [])) rest) (is_one_not out d n)
    ∙ ap (λ v. rooted_after v (all_but_last (out ++ d ∷ [])) rest) (or_not a)
    ∙ ap (λ u. rooted_after a u rest) (all_but_last_push out d)

rooted_same : (l m : List (List ℕ)) → ((a : Bool) (out : List (List ℕ)) → rooted_after a out l ≡ rooted_after a out m)
    → (a : Bool) (out ds : List (List ℕ)) → has_dot_segment ds ≡ false → rooted_after a out (ds ++ l) ≡ rooted_after a out (ds ++ m)
rooted_same l m f a out [] h = f a out
rooted_same l m f a out (d ∷ ds) h =
    let parts = or_parts (is_dot_segment d) (has_dot_segment ds) h in
    rooted_step a out d (ds ++ l) parts.0
    ∙ rooted_same l m f a (out ++ d ∷ []) ds parts.1
    ∙ sym (rooted_step a out d (ds ++ m) parts.0)

rooted_fronted : (new : List (List ℕ)) (a : Bool) (out : List (List ℕ)) → rooted_after a out (fronted new) ≡ rooted_after a out new
rooted_fronted new a out = by_test (is_first is_taken new)
  where
    by_test : (v : Bool) → rooted_after a out (cond v ((dot ∷ []) ∷ new) new) ≡ rooted_after a out new
    by_test true = rw dot_single refl
    by_test false = refl

rooted_apart : (a : Bool) (out ds ss : List (List ℕ)) → 0 < length out → has_dot_segment ds ≡ false → has_dot_segment ss ≡ false
    → rooted_after a out (ds ++ apart ds ss) ≡ a
rooted_apart a out [] ss n h k = rooted_kept a out ss k
rooted_apart a out (d ∷ ds) [] n h k =
    ap (λ u. rooted_after a out ((d ∷ ds) ++ u)) (sym (append-nil (double_dots (d ∷ ds)))) ∙ rooted_double_dots a out (d ∷ ds) [] n h
rooted_apart a out (d ∷ ds) (s ∷ []) n h k = rooted_double_dots a out (d ∷ ds) (s ∷ []) n h ∙ rooted_kept a out (s ∷ []) k
rooted_apart a out (d ∷ ds) (s ∷ r ∷ ss) n h k =
    by_test (bytes_eq d s)
    (rooted_apart a (out ++ d ∷ []) ds (r ∷ ss) (some_push out d) parts.1 (or_parts (is_dot_segment s) (has_dot_segment (r ∷ ss)) k).1)
  where
    parts : (is_dot_segment d ≡ false) × (has_dot_segment ds ≡ false)
    parts = or_parts (is_dot_segment d) (has_dot_segment ds) h

    by_test : (v : Bool) → rooted_after a (out ++ d ∷ []) (ds ++ apart ds (r ∷ ss)) ≡ a
        → rooted_after a out ((d ∷ ds) ++ cond v (apart ds (r ∷ ss)) (double_dots (d ∷ ds) ++ s ∷ r ∷ ss)) ≡ a
    by_test true f = rooted_step a out d (ds ++ apart ds (r ∷ ss)) parts.0 ∙ f
    by_test false f = rooted_double_dots a out (d ∷ ds) (s ∷ r ∷ ss) n h ∙ rooted_kept a out (s ∷ r ∷ ss) k

rooted_below : (ds ss : List (List ℕ)) → stays_below ds ss ≡ true → has_dot_segment ds ≡ false → has_dot_segment ss ≡ false
    → rooted_after false [] (ds ++ apart ds ss) ≡ false
rooted_below [] ss e h k = rooted_kept false [] ss k
rooted_below (d ∷ ds) [] e h k = absurd (false≢true e)
rooted_below (d ∷ ds) (s ∷ []) e h k = absurd (false≢true e)
rooted_below (d ∷ ds) (s ∷ r ∷ ss) e h k =
    let parts = or_parts (is_dot_segment d) (has_dot_segment ds) h in
    ap (λ v. rooted_after false [] ((d ∷ ds) ++ cond v (apart ds (r ∷ ss)) (double_dots (d ∷ ds) ++ s ∷ r ∷ ss))) e
    ∙ rooted_step false [] d (ds ++ apart ds (r ∷ ss)) parts.0
    ∙ rooted_apart false (d ∷ []) ds (r ∷ ss) (omega arith) parts.1 (or_parts (is_dot_segment s) (has_dot_segment (r ∷ ss)) k).1

one_root : (b t : PathParts) → have_one_root b t ≡ true → has_dot_segment (all_but_last b.segments) ≡ false → has_dot_segment t.segments ≡ false
    → rooted_after b.absolute [] (all_but_last b.segments ++ fronted (apart_of b t)) ≡ t.absolute
one_root b t e h k = by_flag b.absolute e
  where
    by_flag : (a : Bool) → cond a t.absolute (not t.absolute && stays_below (all_but_last b.segments) t.segments) ≡ true
        → rooted_after a [] (all_but_last b.segments ++ fronted (apart_of b t)) ≡ t.absolute
    by_flag true f = once_rooted [] (all_but_last b.segments ++ fronted (apart_of b t)) ∙ sym f
    by_flag false f =
        let both = and_parts (not t.absolute) (stays_below (all_but_last b.segments) t.segments) f in
        rooted_same (fronted (apart_of b t)) (apart_of b t) (rooted_fronted (apart_of b t)) false [] (all_but_last b.segments) h
        ∙ rooted_below (all_but_last b.segments) t.segments both.1 h k
        ∙ sym (not-true t.absolute both.0)

-- what holds of the relative path: it can be merged, and merged it leads to the path
pub record Leads (b t p : PathParts) : Type 0 where
  pub flag : rooted_after b.absolute [] (all_but_last b.segments ++ p.segments) ≡ t.absolute
  pub plain : has_dot_segment t.segments ≡ false
  pub relative : p.absolute ≡ false
  pub some : 0 < length p.segments
  pub first : IsFirstPlain p.segments
  pub room : length (all_but_last b.segments) + length p.segments ≤ max_segments
  pub there : replay [] (all_but_last b.segments ++ p.segments) ≡ t.segments

pub leads : (b t p : PathParts) → 0 < length t.segments → leading b t ≡ Some p → Leads b t p
leads b t p n h = by_test (may_lead b t) refl (has_room b t) refl h
  where
    new : List (List ℕ)
    new = apart_of b t

    made : may_lead b t ≡ true → has_room b t ≡ true → Leads b t (record { absolute = false; segments = fronted new })
    made may room =
        let one = and_parts (have_one_root b t) (not (has_dot_segment (all_but_last b.segments)) && not (has_dot_segment t.segments)) may in
        let three = and_parts (not (has_dot_segment (all_but_last b.segments))) (not (has_dot_segment t.segments)) one.1 in
        let long = ltb-true (length (all_but_last b.segments) + length new) max_segments room in
        let front = length-fronted new in
        record {
          flag = one_root b t one.0 (not-true (has_dot_segment (all_but_last b.segments)) three.0) (not-true (has_dot_segment t.segments) three.1);
          plain = not-true (has_dot_segment t.segments) three.1;
          relative = refl;
          some = fronted_some new (apart_some (all_but_last b.segments) t.segments n);
          first = first_plain new;
          room = omega (arith, long, front);
          there = replay_fronted [] (all_but_last b.segments) new (apart_some (all_but_last b.segments) t.segments n)
              ∙ replay_apart [] (all_but_last b.segments) t.segments (not-true (has_dot_segment (all_but_last b.segments)) three.0)
              (not-true (has_dot_segment t.segments) three.1) n;
        }

    by_test : (v : Bool) → may_lead b t ≡ v → (w : Bool) → has_room b t ≡ w
        → cond {A = Option PathParts} (v && w) (Some (record { absolute = false; segments = fronted new })) None ≡ Some p → Leads b t p
    by_test true e true f g = let same : record { absolute = false; segments = fronted new } ≡ p = cc in subst (Leads b t) same (made e f)
    by_test true e false f g = absurd (cc)
    by_test false e w f g = absurd (cc)

-- ---- no other relative path leads there with fewer ".."

-- the length of a list without its last element
length_cut_is : (out : List (List ℕ)) → 0 < length out → length (all_but_last out) + 1 ≡ length out
length_cut_is [] h = absurd (omega arith)
length_cut_is (s ∷ []) h = refl
length_cut_is (s ∷ r ∷ out) h = let e = length_cut_is (r ∷ out) (omega arith) in omega (arith, e)

take_cut : (out : List (List ℕ)) (j : ℕ) → j + 1 ≤ length out → take j (all_but_last out) ≡ take j out
take_cut [] j h = absurd (omega arith)
take_cut (s ∷ []) zero h = refl
take_cut (s ∷ []) (suc j) h = absurd (omega (arith, h))
take_cut (s ∷ r ∷ out) zero h = refl
take_cut (s ∷ r ∷ out) (suc j) h = ap (λ u. s ∷ u) (take_cut (r ∷ out) j (omega (arith, h)))

-- this many of the stack's first segments are left, and another one follows them
record CountsAreRight (j : ℕ) (out left : List (List ℕ)) : Type 0 where
  same : take j left ≡ take j out
  more : j < length left

kept_push : (j : ℕ) (out : List (List ℕ)) (s : List ℕ) → j ≤ length out → CountsAreRight j out (out ++ s ∷ [])
kept_push j out s h = record { same = take-append-le j out (s ∷ []) h; more = omega (arith, length-append out (s ∷ []), h) }

kept_cut : (j : ℕ) (out left : List (List ℕ)) → j + 1 ≤ length out → CountsAreRight j (all_but_last out) left → CountsAreRight j out left
kept_cut j out left h is = record { same = is.same ∙ take_cut out j h; more = is.more }

kept_from_push : (j : ℕ) (out left : List (List ℕ)) (s : List ℕ) → j ≤ length out → CountsAreRight j (out ++ s ∷ []) left → CountsAreRight j out left
kept_from_push j out left s h is = record { same = is.same ∙ take-append-le j out (s ∷ []) h; more = is.more }

shorter_cut : (j k : ℕ) (out : List (List ℕ)) → j + (k + 1) ≤ length out → j + k ≤ length (all_but_last out)
shorter_cut j k out h = let e = length_cut_is out (omega (arith, h)) in omega (arith, h, e)

kept : (j : ℕ) (out q : List (List ℕ)) → 0 < length q → j + double_dots_in q ≤ length out → CountsAreRight j out (replay out q)
kept j out [] n h = absurd (omega arith)
kept j out (s ∷ []) n h = by_kind (is_single_dot s) (is_double_dot s) h
  where
    by_kind : (v w : Bool) → j + cond w (0 + 1) 0 ≤ length out → CountsAreRight j out (cond v (out ++ [] ∷ []) (cond w (all_but_last out ++ [] ∷ []) (out ++ s ∷ [])))
    by_kind true true h = kept_push j out [] (omega (arith, h))
    by_kind true false h = kept_push j out [] (omega (arith, h))
    by_kind false true h = kept_cut j out (all_but_last out ++ [] ∷ []) (omega (arith, h)) (kept_push j (all_but_last out) [] (let e = shorter_cut j 0 out (omega (arith, h)) in omega (arith, e)))
    by_kind false false h = kept_push j out s (omega (arith, h))
kept j out (s ∷ r ∷ q) n h =
    by_kind (is_single_dot s) (is_double_dot s) h (kept j out (r ∷ q) (omega arith)) (kept j (all_but_last out) (r ∷ q) (omega arith))
    (kept j (out ++ s ∷ []) (r ∷ q) (omega arith))
  where
    k : ℕ
    k = double_dots_in (r ∷ q)

    by_kind : (v w : Bool) → j + cond w (k + 1) k ≤ length out
        → (j + k ≤ length out → CountsAreRight j out (replay out (r ∷ q)))
        → (j + k ≤ length (all_but_last out) → CountsAreRight j (all_but_last out) (replay (all_but_last out) (r ∷ q)))
        → (j + k ≤ length (out ++ s ∷ []) → CountsAreRight j (out ++ s ∷ []) (replay (out ++ s ∷ []) (r ∷ q)))
        → CountsAreRight j out (cond v (replay out (r ∷ q)) (cond w (replay (all_but_last out) (r ∷ q)) (replay (out ++ s ∷ []) (r ∷ q))))
    by_kind true true h x y z = x (omega (arith, h))
    by_kind true false h x y z = x h
    by_kind false true h x y z = kept_cut j out (replay (all_but_last out) (r ∷ q)) (omega (arith, h)) (y (shorter_cut j k out h))
    by_kind false false h x y z = kept_from_push j out (replay (out ++ s ∷ []) (r ∷ q)) s (omega (arith, h)) (z (omega (arith, h, length-append out (s ∷ []))))

none_climb : (ss : List (List ℕ)) → has_dot_segment ss ≡ false → double_dots_in ss ≡ 0
none_climb [] h = refl
none_climb (s ∷ ss) h =
    let parts = or_parts (is_dot_segment s) (has_dot_segment ss) h in
    let n = or_parts (is_single_dot s) (is_double_dot s) parts.0 in
    ap (λ w. cond w (double_dots_in ss + 1) (double_dots_in ss)) n.1 ∙ none_climb ss parts.1

each_double_dots : (ds ss : List (List ℕ)) → double_dots_in (double_dots ds ++ ss) ≡ length ds + double_dots_in ss
each_double_dots [] ss = omega arith
each_double_dots (d ∷ ds) ss =
    let e = each_double_dots ds ss in
    ap (λ w. cond w (double_dots_in (double_dots ds ++ ss) + 1) (double_dots_in (double_dots ds ++ ss))) double ∙ omega (arith, e)

-- directories that both start with need no ".."
few_double_dots : (ds ss : List (List ℕ)) (j : ℕ) → has_dot_segment ss ≡ false → take j ds ≡ take j ss → j ≤ length ds → j < length ss → double_dots_in (apart ds ss) + j ≤ length ds
few_double_dots ds [] j h e l m = absurd (omega (arith, m))
few_double_dots [] (s ∷ ss) j h e l m = let n = none_climb (s ∷ ss) h in omega (arith, n, l)
few_double_dots (d ∷ ds) (s ∷ []) j h e l m =
    let n = none_climb (s ∷ []) h in
    let k = each_double_dots (d ∷ ds) (s ∷ []) in
    omega (arith, n, k, l, m)
few_double_dots (d ∷ ds) (s ∷ r ∷ ss) j h e l m =
    by_test (λ i f n k. few_double_dots ds (r ∷ ss) i (or_parts (is_dot_segment s) (has_dot_segment (r ∷ ss)) h).1 f n k) (bytes_eq d s) refl j e l m
  where
    by_test : ((i : ℕ) → take i ds ≡ take i (r ∷ ss) → i ≤ length ds → i < length (r ∷ ss) → double_dots_in (apart ds (r ∷ ss)) + i ≤ length ds)
        → (v : Bool) → bytes_eq d s ≡ v → (j : ℕ) → take j (d ∷ ds) ≡ take j (s ∷ r ∷ ss) → j ≤ length (d ∷ ds) → j < length (s ∷ r ∷ ss)
        → double_dots_in (cond v (apart ds (r ∷ ss)) (double_dots (d ∷ ds) ++ s ∷ r ∷ ss)) + j ≤ length (d ∷ ds)
    by_test more true f zero e l m = let k = more 0 refl (omega arith) (omega arith) in omega (arith, k)
    by_test more true f (suc j) e l m =
        let same : take j ds ≡ take j (r ∷ ss) = cc in
        let k = more j same (omega (arith, l)) (omega (arith, m)) in
        omega (arith, k)
    by_test more false f zero e l m =
        let n = none_climb (s ∷ r ∷ ss) h in
        let k = each_double_dots (d ∷ ds) (s ∷ r ∷ ss) in
        omega (arith, n, k)
    by_test more false f (suc j) e l m =
        let same : d ≡ s = cc in
        absurd (false≢true (sym f ∙ (bytes_eq-Decides d s).1 same))

not_double : is_double_dot (dot ∷ []) ≡ false
unfolding is_double_dot canonical_in tokens is_unreserved
not_double = refl

double_dots_fronted : (ss : List (List ℕ)) → double_dots_in (fronted ss) ≡ double_dots_in ss
double_dots_fronted ss = by_test (is_first is_taken ss)
  where
    by_test : (v : Bool) → double_dots_in (cond v ((dot ∷ []) ∷ ss) ss) ≡ double_dots_in ss
    by_test true = ap (λ w. cond w (double_dots_in ss + 1) (double_dots_in ss)) not_double
    by_test false = refl

fewest_of : (ds ss q : List (List ℕ)) → has_dot_segment ds ≡ false → has_dot_segment ss ≡ false → 0 < length q → 0 < length ss → replay [] (ds ++ q) ≡ ss
    → double_dots_in (apart ds ss) ≤ double_dots_in q
fewest_of ds ss q h k n m e =
    let there : replay ds q ≡ ss = sym (replay-append [] ds q n ∙ ap (λ u. replay u q) (walk_plain [] ds h)) ∙ e in
    by_room (nat_le (double_dots_in q) (length ds)) refl there
  where
    by_room : (v : Bool) → nat_le (double_dots_in q) (length ds) ≡ v → replay ds q ≡ ss → double_dots_in (apart ds ss) ≤ double_dots_in q
    by_room true f there =
        let room : double_dots_in q ≤ length ds = leb-true _ _ f in
        let is = kept (length ds - double_dots_in q) ds q n (omega (arith, room)) in
        let few = few_double_dots ds ss (length ds - double_dots_in q) k (sym is.same ∙ ap (take (length ds - double_dots_in q)) there) (omega arith)
        (subst (λ l. length ds - double_dots_in q < length l) there is.more) in
        omega (arith, room, few)
    by_room false f there =
        let long : length ds < double_dots_in q = leb-false _ _ f in
        let few = few_double_dots ds ss 0 k refl (omega arith) m in
        omega (arith, long, few)

pub fewest : (b t p q : PathParts) → leading b t ≡ Some p → 0 < length t.segments → 0 < length q.segments
    → replay [] (merged b q).segments ≡ t.segments → double_dots_in p.segments ≤ double_dots_in q.segments
fewest b t p q h n m e = by_test (may_lead b t) refl (has_room b t) refl h
  where
    made : may_lead b t ≡ true → double_dots_in (fronted (apart_of b t)) ≤ double_dots_in q.segments
    made may =
        let one = and_parts (have_one_root b t) (not (has_dot_segment (all_but_last b.segments)) && not (has_dot_segment t.segments)) may in
        let three = and_parts (not (has_dot_segment (all_but_last b.segments))) (not (has_dot_segment t.segments)) one.1 in
        let few = fewest_of (all_but_last b.segments) t.segments q.segments (not-true (has_dot_segment (all_but_last b.segments)) three.0)
        (not-true (has_dot_segment t.segments) three.1) m n e in
        let front = double_dots_fronted (apart_of b t) in
        omega (arith, few, front)

    by_test : (v : Bool) → may_lead b t ≡ v → (w : Bool) → has_room b t ≡ w
        → cond {A = Option PathParts} (v && w) (Some (record { absolute = false; segments = fronted (apart_of b t) })) None ≡ Some p → double_dots_in p.segments ≤ double_dots_in q.segments
    by_test true e true f g =
        let same : record { absolute = false; segments = fronted (apart_of b t) } ≡ p = cc in subst (λ p. double_dots_in p.segments ≤ double_dots_in q.segments) same (made e)
    by_test true e false f g = absurd (cc)
    by_test false e w f g = absurd (cc)

pub leads_there : (b t p : PathParts) → 0 < length t.segments → leading b t ≡ Some p → replay [] (merged b p).segments ≡ t.segments
leads_there b t p n h = (leads b t p n h).there
