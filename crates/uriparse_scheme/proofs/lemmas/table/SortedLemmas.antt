-- The names in the table are sorted, and what a binary search over such a list finds.
use Rattle.std.proofs.Common.{
  ◌≡◌,
  ℕ,
  zero,
  suc,
  ◌<◌,
  ◌≤◌,
  Bool,
  true,
  false,
  ◌&&◌,
  List,
  [],
  ◌∷◌,
  length,
  map,
  get_or,
  Result,
  Ok,
  Err,
  refl,
  sym,
  ap,
  subst,
  ◌∙◌,
  ⊎_elim,
  arith,
}
use Rattle.std.specs.List.{AllByRecursion, find, slice_get, position_or_len}
use Rattle.std.specs.Option.{option_and_then}
use Rattle.std.specs.Result.{result_ok}
use Rattle.std.specs.Str.{bytes_eq, str_to_ascii_lowercase}
use Rattle.std.specs.Ordering.{is_lt, nat_cmp, ordering_then, ordering_index}
use Rattle.std.specs.declared.cmp.Ordering.{Ordering}
use Rattle.std.specs.declared.cmp.Ordering.TheVariants.{Less, Equal, Greater}
use Rattle.std.specs.Cmp.Lexicographic.{slice_cmp}
use Rattle.std.specs.List.Sorted.{IsStrictlySortedBy, IsNonDecreasingBy, IsSearchInRange, IsBinarySearchResult}
use Rattle.std.proofs.lemmas.List.{get_or-map, length-map}
use Rattle.std.proofs.lemmas.List.Sorted.{IsNonDecreasingBy-from_default}
use Rattle.std.proofs.lemmas.List.Folds.{find_at}
use Rattle.std.proofs.lemmas.List.Sums.{position_or_len_is}
use Rattle.std.proofs.lemmas.Option.{slice_get_past}
use Rattle.std.proofs.lemmas.Slice.Eq.{bytes_eq-Decides}
use Rattle.std.proofs.lemmas.Bool.{and_parts, false_from_ne_true, cases_lt}
use Rattle.std.proofs.lemmas.Cmp.{nat_list_cmp_total, ranked, tied_itself}
use Rattle.uriparse_scheme.specs.SchemeTable.{row_of, variants}
use Rattle.uriparse_scheme.specs.Registered.{names}

-- each name is below the next
unfoldable pub rises : List (List ℕ) → Bool
rises [] = true
rises (x ∷ []) = true
rises (x ∷ y ∷ ys) = is_lt (slice_cmp nat_cmp x y) && rises (y ∷ ys)

pub names_rise : rises names ≡ true
unfolding rises row_of variants
names_rise = refl

less : (o : Ordering) → is_lt o ≡ true → o ≡ Less
less Less h = refl
less Equal h = cc
less Greater h = cc

-- a text below the first name is below each
below : (x y : List ℕ) (ys : List (List ℕ)) → slice_cmp nat_cmp x y ≡ Less → rises (y ∷ ys) ≡ true →
    AllByRecursion (λ z. slice_cmp nat_cmp x z ≡ Less) (y ∷ ys)
unfolding rises
below x y [] lt h = (lt, tt)
below x y (z ∷ zs) lt h =
    let parts = and_parts (is_lt (slice_cmp nat_cmp y z)) (rises (z ∷ zs)) h in
    (lt, below x z zs (nat_list_cmp_total.trans x y z lt (less _ parts.0)) parts.1)

pub sorted_from_rises : (xs : List (List ℕ)) → rises xs ≡ true → IsStrictlySortedBy (slice_cmp nat_cmp) xs
unfolding rises IsStrictlySortedBy
sorted_from_rises [] h = tt
sorted_from_rises (x ∷ []) h = (tt, (tt))
sorted_from_rises (x ∷ y ∷ ys) h =
    let parts = and_parts (is_lt (slice_cmp nat_cmp x y)) (rises (y ∷ ys)) h in
    (below x y ys (less _ parts.0) parts.1, sorted_from_rises (y ∷ ys) parts.1)

pub lowered_names : map str_to_ascii_lowercase names ≡ names
unfolding row_of variants
lowered_names = refl

pub names_sorted : IsStrictlySortedBy (slice_cmp nat_cmp) names
names_sorted = sorted_from_rises names names_rise

-- ---- what a binary search over such a list finds

abbrev order : List ℕ → List ℕ → Ordering
order = slice_cmp nat_cmp

then_equal : (o p : Ordering) → ordering_then o p ≡ Equal → (o ≡ Equal) × (p ≡ Equal)
then_equal Less p h = cc
then_equal Equal p h = (refl, h)
then_equal Greater p h = cc

same_from_equal : (xs ys : List ℕ) → order xs ys ≡ Equal → xs ≡ ys
same_from_equal [] [] h = refl
same_from_equal [] (y ∷ ys) h = cc
same_from_equal (x ∷ xs) [] h = cc
same_from_equal (x ∷ xs) (y ∷ ys) h =
    let parts = then_equal (nat_cmp x y) (slice_cmp nat_cmp xs ys) h in
    let e : x ≡ y = ranked x y Equal (sym parts.0) in
    let f : xs ≡ ys = same_from_equal xs ys parts.1 in cc

all_at : (P : List ℕ → Type 0) (xs : List (List ℕ)) (k : ℕ) → AllByRecursion P xs → k < length xs → P (get_or xs k [])
all_at P [] k h lt = absurd (omega arith)
all_at P (x ∷ xs) zero h lt = h.0
all_at P (x ∷ xs) (suc k) h lt = all_at P xs k h.1 (omega arith)

pub sorted_at : (xs : List (List ℕ)) (i j : ℕ) → IsStrictlySortedBy order xs → i < j → j < length xs → order (get_or xs i []) (get_or xs j []) ≡ Less
unfolding IsStrictlySortedBy
sorted_at [] i j h lt within = absurd (omega arith)
sorted_at (x ∷ xs) i zero h lt within = absurd (omega arith)
sorted_at (x ∷ xs) zero (suc j) h lt within = all_at (λ y. order x y ≡ Less) xs j h.0 (omega arith)
sorted_at (x ∷ xs) (suc i) (suc j) h lt within = sorted_at xs i j h.1 (omega arith) (omega arith)

index_le : (o : Ordering) → ordering_index o ≤ 2
index_le Less = omega arith
index_le Equal = omega arith
index_le Greater = omega arith

-- a smaller name compares no greater with a text
rank_le : (x y t : List ℕ) → order x y ≡ Less → ordering_index (order x t) ≤ ordering_index (order y t)
rank_le x y t lt = by (order y t) refl
  where
    by : (o : Ordering) → order y t ≡ o → ordering_index (order x t) ≤ ordering_index (order y t)
    by Less e = let f : order x t ≡ Less = nat_list_cmp_total.trans x y t lt e in omega (arith, ap ordering_index f)
    by Equal e = let f : order x t ≡ Less = subst (λ z. order x z ≡ Less) (same_from_equal y t e) lt in omega (arith, ap ordering_index f)
    by Greater e = omega (arith, ap ordering_index e, index_le (order x t))

module _ {X : Type 0} (name : X → List ℕ) (xs : List X) (e : X) (t : List ℕ) (sorted : IsStrictlySortedBy order (map name xs)) where
  long : length (map name xs) ≡ length xs
  long = length-map xs name

  at : (k : ℕ) → k < length xs → get_or (map name xs) k [] ≡ name (get_or xs k e)
  at k lt = get_or-map name xs k e [] lt

  apart : (i j : ℕ) → i < j → j < length xs → order (name (get_or xs i e)) (name (get_or xs j e)) ≡ Less
  apart i j lt within =
      subst (λ n. order n (name (get_or xs j e)) ≡ Less) (at i (omega arith))
      (subst (λ n. order (get_or (map name xs) i []) n ≡ Less) (at j within)
      (sorted_at (map name xs) i j sorted lt (omega (arith, long))))

  answers_rise : IsNonDecreasingBy (λ y. ordering_index (order (name y) t)) xs
  answers_rise = IsNonDecreasingBy-from_default (λ y. ordering_index (order (name y) t)) xs e (λ i j le within.
      ⊎_elim (λ lt. rank_le _ _ t (apart i j lt within))
      (λ ge. let same : i ≡ j = omega arith in omega (arith, ap (λ k. ordering_index (order (name (get_or xs k e)) t)) same))
      (cases_lt i j))

  not_named : (k : ℕ) → (order (name (get_or xs k e)) t ≡ Equal → ⊥) → bytes_eq (name (get_or xs k e)) t ≡ false
  not_named k differs = false_from_ne_true _ (λ h.
      let same : name (get_or xs k e) ≡ t = (bytes_eq-Decides _ _).0 h in
      differs (subst (λ n. order n t ≡ Equal) (sym same) (tied_itself nat_list_cmp_total t)))

  pub searched : (r : Result ℕ ℕ) → IsSearchInRange r (length xs) → IsBinarySearchResult (λ y. order (name y) t) xs r →
      option_and_then (slice_get xs) (result_ok r) ≡ find (λ x. bytes_eq (name x) t) xs
  searched (Ok i) within equal =
      let here : name (get_or xs i e) ≡ t = same_from_equal _ t (equal e) in
      let first : position_or_len (λ x. bytes_eq (name x) t) xs ≡ i =
      position_or_len_is (λ x. bytes_eq (name x) t) xs i e (omega arith)
      (λ k lt. not_named k (λ h. let less : order (name (get_or xs k e)) t ≡ Less =
      subst (λ n. order (name (get_or xs k e)) n ≡ Less) here (apart k i lt within) in cc))
      (λ lt. (bytes_eq-Decides _ _).1 here) in
      sym (find_at (λ x. bytes_eq (name x) t) xs ∙ ap (slice_get xs) first)
  searched (Err i) within parted =
      let point = parted answers_rise in
      let past : position_or_len (λ x. bytes_eq (name x) t) xs ≡ length xs =
      position_or_len_is (λ x. bytes_eq (name x) t) xs (length xs) e (omega arith)
      (λ k lt. not_named k (λ h.
      ⊎_elim (λ low. let less : order (name (get_or xs k e)) t ≡ Less = point.0 k e (omega arith) low in cc)
      (λ high. let greater : order (name (get_or xs k e)) t ≡ Greater = point.1 k e high (omega arith) in cc)
      (cases_lt k i)))
      (λ lt. absurd (omega arith)) in
      sym (find_at (λ x. bytes_eq (name x) t) xs ∙ slice_get_past xs _ (omega (arith, past)))
