-- What the counts of a list's segments say about it, and how they change with it.
use Rattle.std.proofs.Common.{◌≡◌, ℕ, ◌+◌, ◌<◌, ◌≤◌, Bool, true, false, not, ◌&&◌, ◌||◌, cond, List, [], ◌∷◌, ◌++◌, length, map, get_or, Some, None, slice_get, Result, Ok, Err, MatchResult, is_ok, refl, sym, ap, subst, ◌∙◌, arith}
use Rattle.std.specs.Prelude.{◌==◌, ◌↔◌, IsTrue, bytes_eq}
use Rattle.std.specs.Bool.{one_answer}
use Rattle.std.specs.List.{list_all, list_any, count_by, prefix_len}
use Rattle.std.proofs.lemmas.Bool.{false≢true, not-true, and_parts, or_parts, eq-eqb}
use Rattle.std.proofs.lemmas.Slice.Eq.{bytes_eq-Decides}
use Rattle.std.proofs.lemmas.List.Sums.{sum_by-cons, sum_by-append, sum_by_push, count_by-le-length, prefix_len-le-length}
use Rattle.std.proofs.lemmas.List.Folds.{prefix_len-append, list_all_at}
use Rattle.uriparse_text.specs.declared.internal.token.Case.TheVariants.{Kept}
use Rattle.uriparse_text.specs.Bytes.{dot, percent}
use Rattle.uriparse_text.specs.Cuts.{lacks}
use Rattle.uriparse_text.specs.Canonical.{canonical}
use Rattle.uriparse_text.proofs.lemmas.canonical.RunLemmas.{canonical_in-stays}
use Rattle.uriparse_path.specs.declared.path.counts.Counts.{Counts}
use Rattle.uriparse_text.specs.Segment.{is_segment}
use Rattle.uriparse_path.specs.Dots.{is_single_dot, is_double_dot, is_dot_segment, has_dot_segment, all_but_last}
use Rattle.uriparse_path.specs.Relative.{filled}
use Rattle.uriparse_path.specs.Normal.{is_canonical, begins_with_double_dots}
use Rattle.uriparse_text.specs.declared.segment.error.PathError.{PathError}
use Rattle.uriparse_text.specs.declared.segment.error.PathError.TheVariants.{OutOfMemory}
use Rattle.uriparse_path.specs.Edits.{with_last}
use Rattle.uriparse_path.specs.Path.{IsCounted, max_segments}
use Rattle.uriparse_path.specs.Counts.{counts, is_non_canonical, CountsAreRight}
use Rattle.uriparse_text.proofs.lemmas.canonical.DotLemmas.{canonical-nil}
use Rattle.uriparse_path.proofs.lemmas.normal.RelativeFormLemmas.{all_canonical-canonical, shaped, all_shaped}
use Rattle.uriparse_path.proofs.lemmas.list.EditLemmas.{counted_popped, counted_pushed}
use Rattle.uriparse_path.proofs.lemmas.reading.ReadingLemmas.{limit_is}
use Rattle.uriparse_text.proofs.lemmas.canonical.DotLemmas.{canonical-dot, empty_single, empty_double, empty_no_dot, single_is, double_is}
use Rattle.uriparse_path.proofs.lemmas.dots.DotSegmentLemmas.{dot_single, single-canonical, double-canonical, no_dot, not_both, neither}

abbrev pub make : ℕ → ℕ → ℕ → ℕ → Counts
make a b c d = record { single = a; double = b; leading = c; non_canonical = d }

make-same : (a b c d e f g h : ℕ) → a ≡ e → b ≡ f → c ≡ g → d ≡ h → make a b c d ≡ make e f g h
make-same a b c d e f g h i j k l = ap (λ x. make x b c d) i ∙ ap (λ x. make e x c d) j ∙ ap (λ x. make e f x d) k ∙ ap (λ x. make e f g x) l

pub counts_are : (ss : List (List ℕ)) → counts ss ≡ make (count_by is_single_dot ss) (count_by is_double_dot ss) (prefix_len is_double_dot ss) (count_by is_non_canonical ss)
unfolding counts
counts_are ss = refl

pub counts-nil : make 0 0 0 0 ≡ counts []
unfolding counts
counts-nil = refl

-- ---- how large they are

pub record IsFew (c : Counts) (n : ℕ) : Type 0 where
  pub single : c.single ≤ n
  pub double : c.double ≤ n
  pub leading : c.leading ≤ n
  pub non_canonical : c.non_canonical ≤ n

pub few : (c : Counts) (ss : List (List ℕ)) → c ≡ counts ss → IsFew c (length ss)
few c ss e = subst (λ x. IsFew x (length ss)) (sym (e ∙ counts_are ss)) (record {
  single = count_by-le-length is_single_dot ss;
  double = count_by-le-length is_double_dot ss;
  leading = prefix_len-le-length is_double_dot ss;
  non_canonical = count_by-le-length is_non_canonical ss;
})

-- ---- one segment more, and one less

count_push : (p : List ℕ → Bool) (ss : List (List ℕ)) (s : List ℕ) → count_by p (ss ++ s ∷ []) ≡ count_by p ss + cond (p s) 1 0
count_push p ss s = sum_by_push (λ x. cond (p x) 1 0) ss s

lead_push : (p : List ℕ → Bool) (ss : List (List ℕ)) (s : List ℕ) → prefix_len p (ss ++ s ∷ []) ≡ prefix_len p ss + cond (p s && prefix_len p ss == length ss) 1 0
lead_push p ss s = prefix_len-append p ss (s ∷ []) ∙ by (p s) (prefix_len p ss) (length ss)
  where
    by : (v : Bool) (l n : ℕ) → cond (l == n) (n + cond v (1 + 0) 0) l ≡ l + cond (v && l == n) 1 0
    by true l n = grind arith
    by false l n = grind arith

pub counts_push : (c : Counts) (ss : List (List ℕ)) (s : List ℕ) (a b l d : ℕ) → c ≡ counts ss
    → a ≡ c.single + cond (is_single_dot s) 1 0
    → b ≡ c.double + cond (is_double_dot s) 1 0
    → l ≡ c.leading + cond (is_double_dot s && c.leading == length ss) 1 0
    → d ≡ c.non_canonical + cond (is_non_canonical s) 1 0
    → make a b l d ≡ counts (ss ++ s ∷ [])
counts_push c ss s a b l d e f g h i =
    let are : c ≡ make (count_by is_single_dot ss) (count_by is_double_dot ss) (prefix_len is_double_dot ss) (count_by is_non_canonical ss) = e ∙ counts_are ss in
    make-same a b l d _ _ _ _
    (f ∙ ap (λ x. x.single + cond (is_single_dot s) 1 0) are ∙ sym (count_push is_single_dot ss s))
    (g ∙ ap (λ x. x.double + cond (is_double_dot s) 1 0) are ∙ sym (count_push is_double_dot ss s))
    (h ∙ ap (λ x. x.leading + cond (is_double_dot s && x.leading == length ss) 1 0) are ∙ sym (lead_push is_double_dot ss s))
    (i ∙ ap (λ x. x.non_canonical + cond (is_non_canonical s) 1 0) are ∙ sym (count_push is_non_canonical ss s))
    ∙ sym (counts_are (ss ++ s ∷ []))

-- the counts hold the last segment
pub record HasLast (c : Counts) (s : List ℕ) : Type 0 where
  pub single : is_single_dot s ≡ true → 0 < c.single
  pub double : is_double_dot s ≡ true → 0 < c.double
  pub non_canonical : is_non_canonical s ≡ true → 0 < c.non_canonical

pub has_last : (c : Counts) (all front : List (List ℕ)) (s : List ℕ) → c ≡ counts all → all ≡ front ++ s ∷ [] → HasLast c s
has_last c all front s e f =
    subst (λ x. HasLast x s) (sym (e ∙ ap counts f ∙ counts_are (front ++ s ∷ []))) (record {
      single = λ h. one_at is_single_dot h;
      double = λ h. one_at is_double_dot h;
      non_canonical = λ h. one_at is_non_canonical h;
    })
  where
    one_at : (p : List ℕ → Bool) → p s ≡ true → 0 < count_by p (front ++ s ∷ [])
    one_at p h = let more = count_push p front s ∙ ap (λ v. count_by p front + cond v 1 0) h in omega arith

pub all_but_last-push : (front : List (List ℕ)) (s : List ℕ) → all_but_last (front ++ s ∷ []) ≡ front
all_but_last-push [] s = refl
all_but_last-push (t ∷ []) s = refl
all_but_last-push (t ∷ r ∷ front) s = ap (λ u. t ∷ u) (all_but_last-push (r ∷ front) s)

length-push : (ss : List (List ℕ)) (s : List ℕ) → length (ss ++ s ∷ []) ≡ length ss + 1
length-push [] s = refl
length-push (t ∷ ss) s = let more = length-push ss s in omega arith

less : (n m : ℕ) (v : Bool) (r : ℕ) → r + cond v 1 0 ≡ n → n ≡ m + cond v 1 0 → r ≡ m
less n m true r e f = omega arith
less n m false r e f = omega arith

lead_less : (v : Bool) (all n l m r : ℕ) → all ≡ n + 1 → m ≤ n → l ≡ m + cond (v && m == n) 1 0 → r + cond (v && l == all) 1 0 ≡ l → r ≡ m
lead_less true all n l m r e h f g = grind arith
lead_less false all n l m r e h f g = omega arith

pub counts_less : (c : Counts) (all front : List (List ℕ)) (s : List ℕ) (a b l d : ℕ) → c ≡ counts all → all ≡ front ++ s ∷ []
    → a + cond (is_single_dot s) 1 0 ≡ c.single
    → b + cond (is_double_dot s) 1 0 ≡ c.double
    → l + cond (is_double_dot s && c.leading == length all) 1 0 ≡ c.leading
    → d + cond (is_non_canonical s) 1 0 ≡ c.non_canonical
    → make a b l d ≡ counts (all_but_last all)
counts_less c all front s a b l d e cut f g h i =
    let are : c ≡ make (count_by is_single_dot (front ++ s ∷ [])) (count_by is_double_dot (front ++ s ∷ [])) (prefix_len is_double_dot (front ++ s ∷ []))
    (count_by is_non_canonical (front ++ s ∷ [])) = e ∙ ap counts cut ∙ counts_are (front ++ s ∷ []) in
    make-same a b l d _ _ _ _
    (less _ _ (is_single_dot s) a f (ap (λ x. x.single) are ∙ count_push is_single_dot front s))
    (less _ _ (is_double_dot s) b g (ap (λ x. x.double) are ∙ count_push is_double_dot front s))
    (lead_less (is_double_dot s) (length all) (length front) c.leading (prefix_len is_double_dot front) l (ap length cut ∙ length-push front s)
    (prefix_len-le-length is_double_dot front) (ap (λ x. x.leading) are ∙ lead_push is_double_dot front s) h)
    (less _ _ (is_non_canonical s) d i (ap (λ x. x.non_canonical) are ∙ count_push is_non_canonical front s))
    ∙ sym (counts_are front) ∙ ap counts (sym (ap all_but_last cut ∙ all_but_last-push front s))

-- one empty segment has the counts of none
pub counts_empty : counts ([] ∷ []) ≡ counts []
unfolding counts
counts_empty = rw (empty_single, empty_double, (bytes_eq-Decides (canonical []) []).1 canonical-nil) refl

pub counts_filled : (ss : List (List ℕ)) → counts ss ≡ counts (filled ss)
counts_filled [] = sym counts_empty
counts_filled (s ∷ ss) = refl

-- a segment that is no dot segment and canonical changes no count
pub counts_plain : (ss : List (List ℕ)) (s : List ℕ) → is_dot_segment s ≡ false → canonical s ≡ s → counts ss ≡ counts (ss ++ s ∷ [])
counts_plain ss s h k =
    let is = neither s h in
    counts_are ss
    ∙ counts_push (counts ss) ss s _ _ _ _ refl
    (more (count_by is_single_dot ss) _ (is_single_dot s) (ap (λ x. x.single) (counts_are ss)) is.0)
    (more (count_by is_double_dot ss) _ (is_double_dot s) (ap (λ x. x.double) (counts_are ss)) is.1)
    (more (prefix_len is_double_dot ss) _ _ (ap (λ x. x.leading) (counts_are ss)) (ap (λ v. v && (counts ss).leading == length ss) is.1))
    (more (count_by is_non_canonical ss) _ (is_non_canonical s) (ap (λ x. x.non_canonical) (counts_are ss)) (ap not ((bytes_eq-Decides (canonical s) s).1 k)))
  where
    more : (n m : ℕ) (v : Bool) → m ≡ n → v ≡ false → n ≡ m + cond v 1 0
    more n m true e f = absurd (false≢true (sym f))
    more n m false e f = omega arith

-- ---- what they say

cons_count : (p : List ℕ → Bool) (s : List ℕ) (ss : List (List ℕ)) → count_by p (s ∷ ss) ≡ cond (p s) 1 0 + count_by p ss
cons_count p s ss = sum_by-cons (λ x. cond (p x) 1 0) s ss

dots_of : (ss : List (List ℕ)) → (not (count_by is_single_dot ss == 0) || not (count_by is_double_dot ss == 0)) ≡ has_dot_segment ss
dots_of [] = refl
dots_of (s ∷ ss) =
    ap (λ n. not (n == 0) || not (count_by is_double_dot (s ∷ ss) == 0)) (cons_count is_single_dot s ss)
    ∙ ap (λ n. not (cond (is_single_dot s) 1 0 + count_by is_single_dot ss == 0) || not (n == 0)) (cons_count is_double_dot s ss)
    ∙ by (is_single_dot s) (is_double_dot s) (count_by is_single_dot ss) (count_by is_double_dot ss)
    ∙ ap (λ v. is_dot_segment s || v) (dots_of ss)
  where
    by : (v w : Bool) (a b : ℕ) → (not (cond v 1 0 + a == 0) || not (cond w 1 0 + b == 0)) ≡ ((v || w) || (not (a == 0) || not (b == 0)))
    by true w a b = grind arith
    by false true a b = grind arith
    by false false a b = grind arith

pub dots_told : (c : Counts) (ss : List (List ℕ)) → c ≡ counts ss → (not (c.single == 0) || not (c.double == 0)) ≡ has_dot_segment ss
dots_told c ss e = ap (λ x. not (x.single == 0) || not (x.double == 0)) (e ∙ counts_are ss) ∙ dots_of ss

double_dots_of : (ss : List (List ℕ)) → (count_by is_single_dot ss == 0 && count_by is_double_dot ss == prefix_len is_double_dot ss) ≡ begins_with_double_dots ss
double_dots_of [] = refl
double_dots_of (s ∷ ss) = by (is_double_dot s) refl (double_dots_of ss)
  where
    apart : (a b : ℕ) → (a == 0 && b == 0) ≡ not (not (a == 0) || not (b == 0))
    apart a b = grind arith

    same : (a b l : ℕ) → (cond false 1 0 + a == 0 && cond true 1 0 + b == cond true (1 + l) 0) ≡ (a == 0 && b == l)
    same a b l = grind arith

    by : (v : Bool) → is_double_dot s ≡ v → (count_by is_single_dot ss == 0 && count_by is_double_dot ss == prefix_len is_double_dot ss) ≡ begins_with_double_dots ss
        → (count_by is_single_dot (s ∷ ss) == 0 && count_by is_double_dot (s ∷ ss) == cond v (1 + prefix_len is_double_dot ss) 0)
        ≡ cond v (begins_with_double_dots ss) (not (has_dot_segment (s ∷ ss)))
    by true e rest =
        ap (λ n. n == 0 && count_by is_double_dot (s ∷ ss) == 1 + prefix_len is_double_dot ss)
        (cons_count is_single_dot s ss ∙ ap (λ v. cond v 1 0 + count_by is_single_dot ss) (not_both s e))
        ∙ ap (λ n. cond false 1 0 + count_by is_single_dot ss == 0 && n == 1 + prefix_len is_double_dot ss)
        (cons_count is_double_dot s ss ∙ ap (λ v. cond v 1 0 + count_by is_double_dot ss) e)
        ∙ same (count_by is_single_dot ss) (count_by is_double_dot ss) (prefix_len is_double_dot ss)
        ∙ rest
    by false e rest = apart (count_by is_single_dot (s ∷ ss)) (count_by is_double_dot (s ∷ ss)) ∙ ap not (dots_of (s ∷ ss))

pub double_dots_told : (c : Counts) (ss : List (List ℕ)) → c ≡ counts ss → (c.single == 0 && c.double == c.leading) ≡ begins_with_double_dots ss
double_dots_told c ss e = ap (λ x. x.single == 0 && x.double == x.leading) (e ∙ counts_are ss) ∙ double_dots_of ss

canonical_of : (ss : List (List ℕ)) → (count_by is_non_canonical ss == 0) ≡ list_all is_canonical ss
canonical_of [] = refl
canonical_of (s ∷ ss) = ap (λ n. n == 0) (cons_count is_non_canonical s ss) ∙ by (is_canonical s) (count_by is_non_canonical ss) ∙ ap (λ v. is_canonical s && v) (canonical_of ss)
  where
    by : (v : Bool) (a : ℕ) → (cond (not v) 1 0 + a == 0) ≡ (v && a == 0)
    by true a = grind arith
    by false a = grind arith

pub canonical_told : (c : Counts) (ss : List (List ℕ)) → c ≡ counts ss → (c.non_canonical == 0) ≡ list_all is_canonical ss
canonical_told c ss e = ap (λ x. x.non_canonical == 0) (e ∙ counts_are ss) ∙ canonical_of ss

-- ---- the test of one segment

pub stray_is : (s : List ℕ) (r : Bool) → (IsTrue r ↔ (canonical s ≡ s)) → not r ≡ is_non_canonical s
stray_is s r h = ap not (one_answer r (is_canonical s) h (bytes_eq-Decides (canonical s) s))

-- ---- the invariant after a change

pub counted_kept : (ss : List (List ℕ)) (v : Bool) (c : Counts) → CountsAreRight counts ss v c → IsCounted ss
counted_kept ss v c is = record { some = is.some; short = is.short }

pub fits : (ss : List (List ℕ)) → length ss ≤ max_segments → length ss ≤ 4294967295
fits ss h = let short : length ss ≤ 1000000 = subst (λ n. length ss ≤ n) (sym limit_is) h in omega arith

pub cleared_kept : (l : List (List ℕ)) (c : Counts) → l ≡ [] ∷ [] → c ≡ counts [] → CountsAreRight counts l true c
cleared_kept l c e f = subst (λ u. CountsAreRight counts u true c) (sym e) (record {
  some = omega arith;
  short = subst (λ n. 1 ≤ n) limit_is (omega arith);
  right = λ _. f ∙ sym counts_empty;
})

pub popped_kept : (old new : List (List ℕ)) (v : Bool) (c d : Counts) → CountsAreRight counts old v c → new ≡ filled (all_but_last old)
    → (v ≡ true → d ≡ counts (filled (all_but_last old))) → CountsAreRight counts new v d
popped_kept old new v c d is e f =
    let counted = counted_popped old (counted_kept old v c is) in
    subst (λ l. CountsAreRight counts l v d) (sym e) (record { some = counted.some; short = counted.short; right = f })

pub pushed_kept : (old new : List (List ℕ)) (s : List ℕ) (result : Result (Unit {0}) PathError) (v : Bool) (c d e : Counts) → CountsAreRight counts old v c
    → length old < max_segments
    → MatchResult result (λ _. new ≡ with_last old s) (λ e. (e ≡ OutOfMemory) × (new ≡ old))
    → (v ≡ true → d ≡ counts (with_last old s)) → e ≡ cond (is_ok result) d c → CountsAreRight counts new v e
pushed_kept old new s (Ok x) v c d e is h k f g =
    let counted = counted_pushed old new s (Ok x) (counted_kept old v c is) h k in
    record { some = counted.some; short = counted.short; right = λ t. g ∙ f t ∙ ap counts (sym k) }
pushed_kept old new s (Err x) v c d e is h k f g =
    let counted = counted_pushed old new s (Err x) (counted_kept old v c is) h k in
    let right = is.right in
    record { some = counted.some; short = counted.short; right = λ t. g ∙ right t ∙ ap counts (sym k.1) }

-- ---- a segment without escapes

pub unescaped_stays : (s : List ℕ) → lacks percent s ≡ true → canonical s ≡ s
unescaped_stays [] h = canonical-nil
unescaped_stays (b ∷ s) h =
    let parts = and_parts (not (b == percent)) (lacks percent s) h in
    canonical_in-stays Kept b s (ap (λ v. v || not (b == b)) (not-true (b == percent) parts.0) ∙ ap not (eq-eqb b b refl))
    ∙ ap (λ u. b ∷ u) (unescaped_stays s parts.1)

pub canonical_dots : (s : List ℕ) (b : ℕ) → Some b ≡ slice_get s 0 → (b == dot) ≡ false → canonical s ≡ s → is_dot_segment s ≡ false
canonical_dots [] b e n k = cc
canonical_dots (c ∷ t) b e n k = no_dot (c ∷ t) (by_single (is_single_dot (c ∷ t)) refl) (by_double (is_double_dot (c ∷ t)) refl)
  where
    same : b ≡ c
    same = cc

    apart : (c ≡ dot) → ⊥
    apart f = false≢true (sym n ∙ eq-eqb b dot (same ∙ f))

    by_single : (v : Bool) → is_single_dot (c ∷ t) ≡ v → v ≡ false
    by_single true h = absurd (apart (let is : c ∷ t ≡ dot ∷ [] = sym k ∙ single_is (c ∷ t) h in cc))
    by_single false h = refl

    by_double : (v : Bool) → is_double_dot (c ∷ t) ≡ v → v ≡ false
    by_double true h = absurd (apart (let is : c ∷ t ≡ dot ∷ dot ∷ [] = sym k ∙ double_is (c ∷ t) h in cc))
    by_double false h = refl

pub empty_dots : (s : List ℕ) → None ≡ slice_get s 0 → is_dot_segment s ≡ false
empty_dots [] e = empty_no_dot
empty_dots (c ∷ t) e = cc

-- ---- lists without dots, in canonical spelling, and one after the other

none_of : (p : List ℕ → Bool) (ss : List (List ℕ)) → list_any p ss ≡ false → count_by p ss ≡ 0
none_of p [] h = refl
none_of p (s ∷ ss) h =
    let parts = or_parts (p s) (list_any p ss) h in
    cons_count p s ss ∙ ap (λ v. cond v 1 0 + count_by p ss) parts.0 ∙ (let rest = none_of p ss parts.1 in omega arith)

two_none : (ss : List (List ℕ)) → has_dot_segment ss ≡ false → (list_any is_single_dot ss ≡ false) × (list_any is_double_dot ss ≡ false)
two_none [] h = (refl, refl)
two_none (s ∷ ss) h =
    let parts = or_parts (is_dot_segment s) (has_dot_segment ss) h in
    let is = neither s parts.0 in
    let rest = two_none ss parts.1 in
    (ap (λ v. v || list_any is_single_dot ss) is.0 ∙ rest.0, ap (λ v. v || list_any is_double_dot ss) is.1 ∙ rest.1)

lead_none : (p : List ℕ → Bool) (ss : List (List ℕ)) → list_any p ss ≡ false → prefix_len p ss ≡ 0
lead_none p [] h = refl
lead_none p (s ∷ ss) h = ap (λ v. cond v (1 + prefix_len p ss) 0) (or_parts (p s) (list_any p ss) h).0

no_non_canonical : (ss : List (List ℕ)) → list_all is_canonical ss ≡ true → count_by is_non_canonical ss ≡ 0
no_non_canonical [] h = refl
no_non_canonical (s ∷ ss) h =
    let parts = and_parts (is_canonical s) (list_all is_canonical ss) h in
    cons_count is_non_canonical s ss ∙ ap (λ v. cond (not v) 1 0 + count_by is_non_canonical ss) parts.0 ∙ (let rest = no_non_canonical ss parts.1 in omega arith)

pub counts_undotted : (ss : List (List ℕ)) → has_dot_segment ss ≡ false → list_all is_canonical ss ≡ true → make 0 0 0 0 ≡ counts ss
counts_undotted ss h k =
    let none = two_none ss h in
    make-same 0 0 0 0 _ _ _ _ (sym (none_of is_single_dot ss none.0)) (sym (none_of is_double_dot ss none.1)) (sym (lead_none is_double_dot ss none.1))
    (sym (no_non_canonical ss k))
    ∙ sym (counts_are ss)

pub counts_dotted : (ss : List (List ℕ)) → has_dot_segment ss ≡ false → list_all is_canonical ss ≡ true → make 1 0 0 0 ≡ counts ((dot ∷ []) ∷ ss)
counts_dotted ss h k =
    let none = two_none ss h in
    let other = one_dot in
    make-same 1 0 0 0 _ _ _ _
    (sym (cons_count is_single_dot (dot ∷ []) ss ∙ ap (λ v. cond v 1 0 + count_by is_single_dot ss) dot_single ∙ ap (λ n. 1 + n) (none_of is_single_dot ss none.0)))
    (sym (cons_count is_double_dot (dot ∷ []) ss ∙ ap (λ v. cond v 1 0 + count_by is_double_dot ss) other ∙ ap (λ n. 0 + n) (none_of is_double_dot ss none.1)))
    (sym (ap (λ v. cond v (1 + prefix_len is_double_dot ss) 0) other))
    (sym (cons_count is_non_canonical (dot ∷ []) ss ∙ ap (λ v. cond v 1 0 + count_by is_non_canonical ss) (ap not ((bytes_eq-Decides (canonical (dot ∷ [])) (dot ∷ [])).1 canonical-dot))
    ∙ ap (λ n. 0 + n) (no_non_canonical ss k)))
    ∙ sym (counts_are ((dot ∷ []) ∷ ss))
  where
    one_dot : is_double_dot (dot ∷ []) ≡ false
    one_dot = by_double (is_double_dot (dot ∷ [])) refl
      where
        by_double : (v : Bool) → is_double_dot (dot ∷ []) ≡ v → v ≡ false
        by_double true e = absurd (false≢true (sym (not_both (dot ∷ []) e) ∙ dot_single))
        by_double false e = refl

same_count : (p : List ℕ → Bool) → ((s : List ℕ) → is_segment s ≡ true → p (canonical s) ≡ p s) → (ss : List (List ℕ)) → list_all is_segment ss ≡ true
    → count_by p ss ≡ count_by p (map canonical ss)
same_count p f [] h = refl
same_count p f (s ∷ ss) h =
    let parts = and_parts (is_segment s) (list_all is_segment ss) h in
    cons_count p s ss
    ∙ ap (λ v. cond v 1 0 + count_by p ss) (sym (f s parts.0))
    ∙ ap (λ n. cond (p (canonical s)) 1 0 + n) (same_count p f ss parts.1)
    ∙ sym (cons_count p (canonical s) (map canonical ss))

same_lead : (p : List ℕ → Bool) → ((s : List ℕ) → is_segment s ≡ true → p (canonical s) ≡ p s) → (ss : List (List ℕ)) → list_all is_segment ss ≡ true
    → prefix_len p ss ≡ prefix_len p (map canonical ss)
same_lead p f [] h = refl
same_lead p f (s ∷ ss) h =
    let parts = and_parts (is_segment s) (list_all is_segment ss) h in
    ap (λ v. cond v (1 + prefix_len p ss) 0) (sym (f s parts.0)) ∙ ap (λ n. cond (p (canonical s)) (1 + n) 0) (same_lead p f ss parts.1)

pub counts-canonical : (c : Counts) (ss : List (List ℕ)) → c ≡ counts ss → list_all is_segment ss ≡ true
    → make c.single c.double c.leading 0 ≡ counts (map canonical ss)
counts-canonical c ss e h =
    let are = e ∙ counts_are ss in
    make-same c.single c.double c.leading 0 _ _ _ _
    (ap (λ x. x.single) are ∙ same_count is_single_dot single-canonical ss h)
    (ap (λ x. x.double) are ∙ same_count is_double_dot double-canonical ss h)
    (ap (λ x. x.leading) are ∙ same_lead is_double_dot double-canonical ss h)
    (sym (no_non_canonical (map canonical ss) (all_canonical-canonical ss h)))
    ∙ sym (counts_are (map canonical ss))

lead_joined : (p : List ℕ → Bool) (xs ys : List (List ℕ)) → prefix_len p (xs ++ ys) ≡ prefix_len p xs + cond (prefix_len p xs == length xs) (prefix_len p ys) 0
lead_joined p xs ys = prefix_len-append p xs ys ∙ by (prefix_len p xs) (length xs) (prefix_len p ys)
  where
    by : (l n m : ℕ) → cond (l == n) (n + m) l ≡ l + cond (l == n) m 0
    by l n m = grind arith

pub counts_joined : (c d : Counts) (xs ys : List (List ℕ)) (l : ℕ) → c ≡ counts xs → d ≡ counts ys → l ≡ cond (c.leading == length xs) d.leading 0
    → make (c.single + d.single) (c.double + d.double) (c.leading + l) (c.non_canonical + d.non_canonical) ≡ counts (xs ++ ys)
counts_joined c d xs ys l e f g =
    let are = e ∙ counts_are xs in
    let more = f ∙ counts_are ys in
    make-same _ _ _ _ _ _ _ _
    (ap (λ x. x.single + d.single) are ∙ ap (λ x. count_by is_single_dot xs + x.single) more ∙ sym (sum_by-append (λ x. cond (is_single_dot x) 1 0) xs ys))
    (ap (λ x. x.double + d.double) are ∙ ap (λ x. count_by is_double_dot xs + x.double) more ∙ sym (sum_by-append (λ x. cond (is_double_dot x) 1 0) xs ys))
    (ap (λ n. c.leading + n) g
    ∙ ap (λ x. x.leading + cond (x.leading == length xs) d.leading 0) are
    ∙ ap (λ x. prefix_len is_double_dot xs + cond (prefix_len is_double_dot xs == length xs) x.leading 0) more
    ∙ sym (lead_joined is_double_dot xs ys))
    (ap (λ x. x.non_canonical + d.non_canonical) are ∙ ap (λ x. count_by is_non_canonical xs + x.non_canonical) more ∙ sym (sum_by-append (λ x. cond (is_non_canonical x) 1 0) xs ys))
    ∙ sym (counts_are (xs ++ ys))

-- the segment at a place of canonical ones
pub canonical_at : (ss : List (List ℕ)) (i : ℕ) (s : List ℕ) → i < length ss → s ≡ get_or ss i s → list_all is_canonical ss ≡ true → canonical s ≡ s
canonical_at ss i s h e k = (bytes_eq-Decides (canonical s) s).0 (by_test (is_canonical s) refl)
  where
    by_test : (v : Bool) → is_canonical s ≡ v → v ≡ true
    by_test true f = refl
    by_test false f = absurd (false≢true (sym (list_all_at is_canonical ss i s h (ap is_canonical (sym e) ∙ f)) ∙ k))

-- ---- the invariant, if the counts are known

pub kept_by : (ss : List (List ℕ)) (v : Bool) (d : Counts) → IsCounted ss → (v ≡ true → d ≡ counts ss) → CountsAreRight counts ss v d
kept_by ss v d is right = record { some = is.some; short = is.short; right = right }

pub cond_le : (v : Bool) (n : ℕ) → cond v n 0 ≤ n
cond_le true n = omega arith
cond_le false n = omega arith

pub canonical_shaped : (l : List (List ℕ)) → list_all is_canonical l ≡ true → list_all is_canonical (shaped l) ≡ true
canonical_shaped l h =
    all_shaped is_canonical ((bytes_eq-Decides (canonical []) []).1 canonical-nil) ((bytes_eq-Decides (canonical (dot ∷ [])) (dot ∷ [])).1 canonical-dot) l h

-- ---- a canonical dot segment is "." or ".." itself

pub single_by_bytes : (s : List ℕ) → canonical s ≡ s → bytes_eq s (dot ∷ []) ≡ is_single_dot s
unfolding is_single_dot
single_by_bytes s k = ap (λ u. bytes_eq u (dot ∷ [])) (sym k)

pub double_by_bytes : (s : List ℕ) → canonical s ≡ s → bytes_eq s (dot ∷ dot ∷ []) ≡ is_double_dot s
unfolding is_double_dot
double_by_bytes s k = ap (λ u. bytes_eq u (dot ∷ dot ∷ [])) (sym k)

pub no_stray : (s : List ℕ) (n : ℕ) → canonical s ≡ s → n ≡ n + cond (is_non_canonical s) 1 0
no_stray s n k = by_test (is_non_canonical s) (ap not ((bytes_eq-Decides (canonical s) s).1 k))
  where
    by_test : (v : Bool) → v ≡ false → n ≡ n + cond v 1 0
    by_test true e = absurd (false≢true (sym e))
    by_test false e = omega arith
