-- Paths within the directories of others, by what is left of their segments.
use Rattle.std.proofs.Common.{◌≡◌, ◌↔◌, ℕ, zero, suc, ◌+◌, ◌-◌, ◌^◌, ◌<◌, ◌≤◌, Bool, true, false, cond, not, List, [], ◌∷◌, ◌++◌, length, length-append, map, take, drop, length-drop, refl, sym, ap, ◌∙◌, subst, arith, append_assoc, ◌||◌, Option, Some, None}
use Rattle.std.specs.Prelude.{◌&&◌, IsTrue, bytes_eq}
use Rattle.std.proofs.lemmas.Bool.{cond-false, false≢true, not-false}
use Rattle.std.proofs.lemmas.List.{map-append, take-append-drop, length-map}
use Rattle.std.proofs.lemmas.List.Folds.{list_any-append}
use Rattle.std.proofs.Math.Bool.{or-true}
use Rattle.std.proofs.lemmas.List.{drop-append-le}
use Rattle.std.proofs.Math.Seq.{drop-append_seam, take-append_seam}
use Rattle.std.proofs.lemmas.Slice.Eq.{bytes_eq-Decides}
use Rattle.uriparse_text.specs.Ambiguous.{is_ambiguous}
use Rattle.uriparse_text.specs.Canonical.{canonical}
use Rattle.uriparse_text.proofs.lemmas.canonical.DotLemmas.{canonical-nil}
use Rattle.uriparse_path.specs.Path.{IsListed, PathParts, has_hidden_root, max_segments, respelled, starts_with_empty_segment}
use Rattle.uriparse_path.specs.Dots.{all_but_last, is_single_dot, is_double_dot, is_dot_segment, replay, replayed, rooted_after}
use Rattle.uriparse_path.specs.Normal.{pnormal}
use Rattle.uriparse_path.specs.Relative.{is_last}
use Rattle.uriparse_path.specs.Remaining.{Remaining, process_one, process_plain, remaining_of, with_end}
use Rattle.uriparse_path.specs.Within.{AreFew, AreWithin, HasDirectory, MeetsAmbiguous, Skips, between_slashes, has_ambiguous, led, normal_left}
use Rattle.uriparse_path.proofs.lemmas.dots.ReplayLemmas.{replay_some}
use Rattle.uriparse_path.proofs.lemmas.left.RemainingLemmas.{replay_left, rooted_left}
use Rattle.uriparse_path.proofs.lemmas.merge.MergedNormalFormLemmas.{all_but_last_push, pnormal_is, undotted}

-- ---- how many segments are left

one_more : (s : List ℕ) (l : Remaining) → length (process_one s l).kept ≤ length l.kept + 1
one_more s l = by_kind (is_single_dot s) (is_double_dot s) l.double_dots
  where
    by_kind : (v w : Bool) (n : ℕ)
        → length (cond v l (cond w (record { double_dots = suc l.double_dots; kept = l.kept; removed = l.removed }) (process_plain s n l))).kept ≤ length l.kept + 1
    by_kind true w n = omega arith
    by_kind false true n = omega arith
    by_kind false false zero = omega arith
    by_kind false false (suc n) = omega arith

length_kept : (ss : List (List ℕ)) → length (remaining_of ss).kept ≤ length ss
length_kept [] = omega arith
length_kept (s ∷ ss) = omega (arith, length_kept ss, one_more s (remaining_of ss))

ended_length : (v : Bool) (ss : List (List ℕ)) → length (with_end v ss) ≤ length ss + 1
ended_length true ss = let sum = length-append ss ([] ∷ []) in omega (arith, sum)
ended_length false ss = omega arith

led_length : (v : Bool) (ss : List (List ℕ)) → length (led v ss) ≤ length ss + 1
led_length true ss = omega arith
led_length false ss = omega arith

pub few_left : (a e : Bool) (o : Option (List (List ℕ))) → AreFew o → length (normal_left a e o) ≤ max_segments + 2
few_left a e None few = omega arith
few_left a e (Some ss) few =
    omega (arith, few, length_kept ss, ended_length e (remaining_of ss).kept, led_length (a || (remaining_of ss).removed) (with_end e (remaining_of ss).kept))

pub small : (n m k : ℕ) → n + m ≡ k → k ≤ max_segments + 2 → n + 1 < 2 ^ 63
unfolding max_segments
small n m k e h = omega (arith, e, h)

-- ---- what is left is the normal form

led-canonical : (v : Bool) (ss : List (List ℕ)) → map canonical (led v ss) ≡ led v (map canonical ss)
led-canonical true ss = ap (λ u. u ∷ map canonical ss) canonical-nil
led-canonical false ss = refl

led-respelled : (p : PathParts) → between_slashes (respelled p) ≡ between_slashes p
led-respelled p = by_shape p.absolute p.segments
  where
    by_shape : (a : Bool) (ss : List (List ℕ))
        → between_slashes (cond (not a && starts_with_empty_segment ss) (record { absolute = true; segments = drop 1 ss }) (record { absolute = a; segments = ss })) ≡ led a ss
    by_shape true ss = refl
    by_shape false [] = refl
    by_shape false ([] ∷ []) = refl
    by_shape false ([] ∷ r ∷ ss) = refl
    by_shape false ((b ∷ s) ∷ ss) = refl

left-replayed : (a : Bool) (ss : List (List ℕ)) → IsListed ss
    → normal_left a (is_last is_dot_segment ss) (Some ss) ≡ between_slashes (replayed (record { absolute = a; segments = ss }))
left-replayed a ss is =
    ap (λ v. led v (with_end (is_last is_dot_segment ss) (remaining_of ss).kept)) (sym (rooted_left a ss))
    ∙ ap (led (rooted_after a [] ss)) (sym (replay_left ss is.some))

pub left-normal : (a : Bool) (ss : List (List ℕ)) → IsListed ss → has_hidden_root (record { absolute = a; segments = ss }) ≡ false
    → map canonical (normal_left a (is_last is_dot_segment ss) (Some ss)) ≡ between_slashes (pnormal (record { absolute = a; segments = ss }) false)
left-normal a ss is shown =
    let p : PathParts = record { absolute = a; segments = ss } in
    let kept : respelled p ≡ p = cond-false (has_hidden_root p) _ _ shown in
    ap (map canonical) (left-replayed a ss is ∙ sym (led-respelled (replayed p)))
    ∙ led-canonical (undotted p).absolute (undotted p).segments
    ∙ sym (ap between_slashes (pnormal_is p false is kept refl))

led_some : (v : Bool) (ss : List (List ℕ)) → 0 < length ss → 0 < length (led v ss)
led_some true ss h = omega arith
led_some false ss h = h

pub left-some : (a : Bool) (ss : List (List ℕ)) → IsListed ss → 0 < length (normal_left a (is_last is_dot_segment ss) (Some ss))
left-some a ss is = subst (λ l. 0 < length l) (sym (left-replayed a ss is)) (led_some (rooted_after a [] ss) (replay [] ss) (replay_some [] ss is.some))

-- ---- segments at the end

last_item : List (List ℕ) → List ℕ
last_item [] = []
last_item (s ∷ []) = s
last_item (s ∷ r ∷ ss) = last_item (r ∷ ss)

last_item_push : (ss : List (List ℕ)) (s : List ℕ) → last_item (ss ++ s ∷ []) ≡ s
unfolding last_item
last_item_push [] s = refl
last_item_push (r ∷ []) s = refl
last_item_push (r ∷ q ∷ ss) s = last_item_push (q ∷ ss) s

push-canonical : (xs : List (List ℕ)) (x : List ℕ) → map canonical (xs ++ x ∷ []) ≡ map canonical xs ++ canonical x ∷ []
push-canonical xs x = map-append canonical xs (x ∷ [])

-- lists are equal exactly if they are without their last segments, and these are
pub equal_pushed : (xs ys front back : List (List ℕ)) (x y : List ℕ) → xs ≡ front ++ x ∷ [] → ys ≡ back ++ y ∷ [] → canonical x ≡ canonical y
    → (map canonical front ≡ map canonical back) ↔ (map canonical xs ≡ map canonical ys)
equal_pushed xs ys front back x y e f same =
    let one = ap (map canonical) e ∙ push-canonical front x in
    let other = ap (map canonical) f ∙ push-canonical back y in (
      λ h. one ∙ ap (λ l. l ++ canonical x ∷ []) h ∙ ap (λ s. map canonical back ++ s ∷ []) same ∙ sym other,
      λ h. sym (all_but_last_push (map canonical front) (canonical x)) ∙ ap all_but_last (sym one ∙ h ∙ other) ∙ all_but_last_push (map canonical back) (canonical y),
    )

pub last_pushed : (xs ys front back : List (List ℕ)) (x y : List ℕ) → xs ≡ front ++ x ∷ [] → ys ≡ back ++ y ∷ [] → map canonical xs ≡ map canonical ys
    → canonical x ≡ canonical y
last_pushed xs ys front back x y e f same =
    let one = ap (map canonical) e ∙ push-canonical front x in
    let other = ap (map canonical) f ∙ push-canonical back y in
    sym (last_item_push (map canonical front) (canonical x)) ∙ ap last_item (sym one ∙ same ∙ other) ∙ last_item_push (map canonical back) (canonical y)

-- the end of a list, by its length
longer_end : (a b c d : List (List ℕ)) → a ++ b ≡ c ++ d → length b ≤ length d → (m : List (List ℕ)) × (d ≡ m ++ b)
longer_end a b c d e less =
    let sums = ap length e in
    let one = length-append a b in
    let other = length-append c d in
    let short : length c ≤ length a = omega (arith, less, sums, one, other) in
    (drop (length c) a, sym (drop-append_seam c d) ∙ sym (ap (drop (length c)) e) ∙ drop-append-le (length c) a b short)

any_after : (m rest : List (List ℕ)) (s : List ℕ) → is_ambiguous (canonical s) ≡ true → has_ambiguous (map canonical (m ++ s ∷ rest)) ≡ true
any_after m rest s h =
    ap has_ambiguous (map-append canonical m (s ∷ rest)) ∙ list_any-append is_ambiguous (map canonical m) (map canonical (s ∷ rest))
    ∙ ap (λ v. has_ambiguous (map canonical m) || (v || has_ambiguous (map canonical rest))) h ∙ or-true (has_ambiguous (map canonical m))

pub meets_ambiguous : (n more : ℕ) (all now front rest : List (List ℕ)) (s : List ℕ) → all ≡ now ++ rest → length rest + more ≡ n → 0 < more
    → now ≡ front ++ s ∷ [] → is_ambiguous (canonical s) ≡ true → MeetsAmbiguous n all
meets_ambiguous n more all now front rest s whole sum some cut h = λ other tail split size.
    let joined : front ++ s ∷ rest ≡ all = sym (append_assoc front (s ∷ []) rest) ∙ ap (λ l. l ++ rest) (sym cut) ∙ sym whole in
    let longer = longer_end front (s ∷ rest) other tail (joined ∙ split) (omega (arith, sum, some, size)) in
    ap (λ l. has_ambiguous (map canonical l)) longer.1 ∙ any_after longer.0 rest s h

pub skips_more : (n more : ℕ) (all now front rest : List (List ℕ)) (s : List ℕ) → all ≡ now ++ rest → length rest + more ≡ n → 0 < more
    → now ≡ front ++ s ∷ [] → is_ambiguous (canonical s) ≡ false → has_ambiguous (map canonical rest) ≡ false
    → (more_rest : List (List ℕ)) × (all ≡ front ++ more_rest) × (length more_rest + (more - 1) ≡ n) × (has_ambiguous (map canonical more_rest) ≡ false)
skips_more n more all now front rest s whole sum some cut h plain = (
  s ∷ rest,
  whole ∙ ap (λ l. l ++ rest) cut ∙ append_assoc front (s ∷ []) rest,
  omega (arith, sum, some),
  ap (λ v. v || has_ambiguous (map canonical rest)) h ∙ plain,
)

-- ---- directories

pub length_mapped : (ss : List (List ℕ)) → length (map canonical ss) ≡ length ss
length_mapped ss = length-map ss canonical

too_short : (ps ds : List (List ℕ)) → length ps ≤ length ds → HasDirectory (map canonical ps) (map canonical ds) → ⊥
too_short ps ds less h =
    let whole = ap length h.begins in
    let sum = length-append (map canonical ds) h.rest in
    let one = length_mapped ps in
    let other = length_mapped ds in
    let some = h.some in
    omega (arith, less, whole, sum, one, other, some)

pub no_directory : (ps ds : List (List ℕ)) → length ps ≤ length ds → IsTrue false ↔ HasDirectory (map canonical ps) (map canonical ds)
no_directory ps ds less = (λ h. absurd (false≢true h), λ h. absurd (too_short ps ds less h))

-- both lists are cut at one place
pub same_cut : (a b c d : List (List ℕ)) → a ++ b ≡ c ++ d → length a ≡ length c → (a ≡ c) × (b ≡ d)
same_cut a b c d e size = (
  sym (take-append_seam a b) ∙ ap (take (length a)) e ∙ ap (λ n. take n (c ++ d)) size ∙ take-append_seam c d,
  sym (drop-append_seam a b) ∙ ap (drop (length a)) e ∙ ap (λ n. drop n (c ++ d)) size ∙ drop-append_seam c d,
)

pub ambiguous_directory : (ps ds : List (List ℕ)) (n : ℕ) → length ds < length ps → n ≡ length ps - length ds → MeetsAmbiguous n ps
    → IsTrue false ↔ HasDirectory (map canonical ps) (map canonical ds)
ambiguous_directory ps ds n less size meets = (λ h. absurd (false≢true h), λ h. absurd (found h))
  where
    found : HasDirectory (map canonical ps) (map canonical ds) → ⊥
    found h =
        let d = length ds in
        let front = take d ps in
        let rest = drop d ps in
        let whole = take-append-drop d ps in
        let taken : length front ≡ d = omega (arith, ap length whole, length-append front rest, length-drop d ps, less) in
        let left : length rest ≡ n = omega (arith, length-drop d ps, size) in
        let cut : map canonical front ++ map canonical rest ≡ map canonical ds ++ h.rest =
        sym (map-append canonical front rest) ∙ ap (map canonical) whole ∙ h.begins in
        let same = same_cut (map canonical front) (map canonical rest) (map canonical ds) h.rest cut (length_mapped front ∙ taken ∙ sym (length_mapped ds)) in
        false≢true (sym h.plain ∙ ap has_ambiguous (sym same.1) ∙ meets front rest (sym whole) left)

pub plain_directory : (ps ds front : List (List ℕ)) (n : ℕ) (r : Bool) → length ds < length ps → n ≡ length ps - length ds → Skips n ps front
    → IsTrue r ↔ (map canonical front ≡ map canonical ds) → IsTrue r ↔ HasDirectory (map canonical ps) (map canonical ds)
plain_directory ps ds front n r less size skips iff =
    let rest = skips.0 in
    let whole : map canonical ps ≡ map canonical front ++ map canonical rest = ap (map canonical) skips.1 ∙ map-append canonical front rest in (
      λ h. record {
        rest = map canonical rest;
        begins = whole ∙ ap (λ l. l ++ map canonical rest) (iff.0 h);
        some = omega (arith, length_mapped rest, skips.2, less, size);
        plain = skips.3;
      },
      λ h. iff.1 (same_cut (map canonical front) (map canonical rest) (map canonical ds) h.rest (sym whole ∙ h.begins)
          (omega (arith, length_mapped front, length_mapped ds, ap length skips.1, length-append front rest, skips.2, less, size))).0,
    )

-- ---- a base

pub but_last : (bs ds : List (List ℕ)) (last : List ℕ) → bs ≡ ds ++ last ∷ [] → all_but_last (map canonical bs) ≡ map canonical ds
but_last bs ds last e = ap all_but_last (ap (map canonical) e ∙ push-canonical ds last) ∙ all_but_last_push (map canonical ds) (canonical last)

one_only : (bs ds : List (List ℕ)) (last : List ℕ) → bs ≡ ds ++ last ∷ [] → length (map canonical bs) ≡ length ds + 1
one_only bs ds last e = omega (arith, length_mapped bs, ap length e, length-append ds (last ∷ []))

pub within_from : (ps bs ds : List (List ℕ)) (last : List ℕ) → bs ≡ ds ++ last ∷ [] → HasDirectory (map canonical ps) (map canonical ds)
    → (length ds ≡ 0 → map canonical ps ≡ map canonical bs) → AreWithin (map canonical ps) (map canonical bs)
within_from ps bs ds last e h same = record {
  rest = h.rest;
  begins = h.begins ∙ ap (λ l. l ++ h.rest) (sym (but_last bs ds last e));
  some = h.some;
  plain = h.plain;
  alone = λ one. same (omega (arith, one, one_only bs ds last e));
}

pub within_directory : (ps bs ds : List (List ℕ)) (last : List ℕ) → bs ≡ ds ++ last ∷ [] → AreWithin (map canonical ps) (map canonical bs)
    → HasDirectory (map canonical ps) (map canonical ds)
within_directory ps bs ds last e w = record { rest = w.rest; begins = w.begins ∙ ap (λ l. l ++ w.rest) (but_last bs ds last e); some = w.some; plain = w.plain }

pub within_alone : (ps bs ds : List (List ℕ)) (last : List ℕ) → bs ≡ ds ++ last ∷ [] → AreWithin (map canonical ps) (map canonical bs) → length ds ≡ 0
    → map canonical ps ≡ map canonical bs
within_alone ps bs ds last e w none = w.alone (omega (arith, none, one_only bs ds last e))

-- ---- segments that are compared

pub differ : (s t : List ℕ) (r : Bool) → r ≡ not (bytes_eq (canonical s) (canonical t)) → r ≡ true → canonical s ≡ canonical t → ⊥
differ s t r e h same = false≢true (sym (ap not ((bytes_eq-Decides (canonical s) (canonical t)).1 same)) ∙ sym e ∙ h)

pub same_text : (s t : List ℕ) (r : Bool) → r ≡ not (bytes_eq (canonical s) (canonical t)) → r ≡ false → canonical s ≡ canonical t
same_text s t r e h = (bytes_eq-Decides (canonical s) (canonical t)).0 (not-false (bytes_eq (canonical s) (canonical t)) (sym e ∙ h))

-- ---- copies

pub same_left : (a b e f : Bool) (o p : Option (List (List ℕ))) → (a ≡ b) × (e ≡ f) × (o ≡ p) → normal_left a e o ≡ normal_left b f p
same_left a b e f o p h = ap (λ v. normal_left v e o) h.0 ∙ ap (λ v. normal_left b v o) h.1 ∙ ap (normal_left b f) h.2

pub directory_iff : (ps qs ds : List (List ℕ)) (r : Bool) → qs ≡ ps → IsTrue r ↔ HasDirectory (map canonical qs) (map canonical ds)
    → IsTrue r ↔ HasDirectory (map canonical ps) (map canonical ds)
directory_iff ps qs ds r e iff = subst (λ l. IsTrue r ↔ HasDirectory (map canonical l) (map canonical ds)) e iff

pub none_left : (ss : List (List ℕ)) (r : Bool) → IsTrue r ↔ (0 < length ss) → r ≡ false → length ss ≡ 0
none_left [] r iff e = refl
none_left (s ∷ ss) r iff e = absurd (false≢true (sym e ∙ iff.1 (omega arith)))

pub within_iff : (r : Bool) (ps qs bs cs : List (List ℕ)) → ps ≡ qs → bs ≡ cs → IsTrue r ↔ AreWithin ps bs → IsTrue r ↔ AreWithin qs cs
within_iff r ps qs bs cs e f iff = subst (λ l. IsTrue r ↔ AreWithin qs l) f (subst (λ l. IsTrue r ↔ AreWithin l bs) e iff)
