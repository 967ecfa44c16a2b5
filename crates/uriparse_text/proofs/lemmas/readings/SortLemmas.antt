-- Queries with their pairs in the order of their names.
use Rattle.std.proofs.Common.{◌≡◌, ℕ, Bor, ◌+◌, ◌<◌, ◌≤◌, Bool, true, false, List, [], ◌∷◌, ◌++◌, length, map, Option, Some, None, refl, sym, ap, subst, ◌∙◌, append-nil, append_assoc, arith, suc, zero, drop, inl, inr}
use Rattle.std.specs.Prelude.{⊤, ◌&&◌, ◌⊎◌, not, cond, bytes_eq, IfSome, slice_index_or}
use Rattle.std.specs.Cmp.{IsStrictWeakOrder}
use Rattle.std.specs.Cmp.Lexicographic.{slice_cmp}
use Rattle.std.specs.Ordering.{is_lt, is_eq, nat_cmp, ordering_reverse}
use Rattle.std.specs.declared.cmp.Ordering.{Ordering}
use Rattle.std.specs.declared.cmp.Ordering.TheVariants.{Less, Equal, Greater}
use Rattle.std.proofs.lemmas.Cmp.{nat_list_cmp_total, tied_itself}
use Rattle.std.proofs.lemmas.Map.Text.{is_eq-slice_cmp}
use Rattle.std.proofs.lemmas.Slice.Eq.{bytes_eq-Decides}
use Rattle.std.proofs.lemmas.List.MinMax.{ranks_by}
use Rattle.std.proofs.lemmas.List.Sorted.{All-permutation, IsPermutation-cons, IsPermutation-map, IsPermutation-middle, IsPermutation-refl, IsPermutation-sym, IsPermutation-trans, length_permutation, sorted_far}
use Rattle.std.specs.List.{filter, list_all, slice_split}
use Rattle.std.specs.List.Sorted.{IsSortedBy, IsStableBy, IsPermutation, ties}
use Rattle.std.proofs.lemmas.Bool.{and_from, and_parts, false≢true, not-true}
use Rattle.std.proofs.lemmas.List.{length-map}
use Rattle.std.proofs.lemmas.Simd.{map-map}
use Rattle.std.proofs.lemmas.List.Sums.{AllPass-from_list_all, list_all-from_AllPass}
use Rattle.std.proofs.lemmas.List.Folds.{list_all-append, list_all-map}
use Rattle.uriparse_text.specs.Bytes.{ampersand, equals_sign}
use Rattle.uriparse_text.specs.Cuts.{before, after}
use Rattle.uriparse_text.specs.Query.{IsQuery}
use Rattle.uriparse_text.specs.Coding.{decoded}
use Rattle.uriparse_text.specs.Pairs.{Pair, is_ampersand, pair_of, pairs, decoded_pair, is_named, has_less_name, insert_pair, sorted_pairs}
use Rattle.uriparse_text.specs.Written.{is_piece, ArePieces}
use Rattle.uriparse_text.proofs.lemmas.readings.CutLemmas.{up_to-none}
use Rattle.uriparse_text.proofs.lemmas.readings.PairLemmas.{first_piece, pieces_left, query_pieces}

-- ---- the pieces of a query, one after another

pub record Cutting (q : List ℕ) (rest : Option (List ℕ)) (pieces : List (List ℕ)) : Type 0 where
  pub query : IfSome rest IsQuery
  pub each : list_all is_piece pieces ≡ true
  pub later : pieces ++ pieces_left ampersand rest ≡ slice_split is_ampersand q

pub cutting_first : (q : List ℕ) → IsQuery q → Cutting q (Some q) []
cutting_first q h = record { query = h; each = refl; later = refl }

pub cutting_next : (q : List ℕ) (o : Option (List ℕ)) (left piece : List ℕ) (rest : Option (List ℕ)) (pieces more : List (List ℕ)) → Cutting q o pieces → o ≡ Some left
    → piece ≡ before ampersand left → rest ≡ after ampersand left → more ≡ pieces ++ piece ∷ [] → Cutting q rest more
cutting_next q o left piece rest pieces more g some cut cutting is =
    subst (Cutting q rest) (sym (is ∙ ap (λ s. pieces ++ s ∷ []) cut))
    (subst (λ r. Cutting q r (pieces ++ before ampersand left ∷ [])) (sym cutting) (on (subst (λ r. Cutting q r pieces) some g)))
  where
    on : Cutting q (Some left) pieces → Cutting q (after ampersand left) (pieces ++ before ampersand left ∷ [])
    on h =
        let s = before ampersand left in
        let own : is_piece s ≡ true = and_from _ _ (up_to-none is_ampersand left) (query_pieces left h.query).0 in
        record {
          query = (query_pieces left h.query).1;
          each = list_all-append is_piece pieces (s ∷ []) ∙ and_from _ _ h.each (and_from _ _ own refl);
          later = append_assoc pieces (s ∷ []) (pieces_left ampersand (after ampersand left)) ∙ ap (λ l. pieces ++ l) (sym (first_piece ampersand left)) ∙ h.later;
        }

pub cutting_last : (q : List ℕ) (o : Option (List ℕ)) (pieces : List (List ℕ)) → Cutting q o pieces → o ≡ None → ArePieces q pieces
cutting_last q o pieces g none =
    let last = subst (λ r. Cutting q r pieces) none g in
    (sym (append-nil pieces) ∙ last.later, last.each)

pub some_piece : (q : List ℕ) (ss : List (List ℕ)) → ss ≡ slice_split is_ampersand q → 0 < length ss
some_piece q ss is =
    let size = ap length (is ∙ first_piece ampersand q) in
    omega (arith, size)

-- ---- one list in order

tied : (o : Ordering) → (not (is_lt (ordering_reverse o)) && not (is_lt o)) ≡ is_eq o
tied Less = refl
tied Equal = refl
tied Greater = refl

module _ {X : Type 0} where
  all_pass : (p : X → Bool) (xs : List X) → ((j : ℕ) (d : X) → j < length xs → p (slice_index_or xs j d) ≡ true) → list_all p xs ≡ true
  all_pass p [] h = refl
  all_pass p (x ∷ xs) h = and_from _ _ (h 0 x (omega arith)) (all_pass p xs (λ j d below. h (suc j) d (omega (arith, below))))

  -- some element passes, or none does
  find_passing : (p : X → Bool) (xs : List X) → (filter p xs ≡ []) ⊎ ((x : X) × (p x ≡ true))
  find_passing p [] = inl refl
  find_passing p (x ∷ xs) = by_test (p x) refl (find_passing p xs)
    where
      by_test : (b : Bool) → p x ≡ b → (filter p xs ≡ []) ⊎ ((x : X) × (p x ≡ true)) → (filter p (x ∷ xs) ≡ []) ⊎ ((x : X) × (p x ≡ true))
      by_test true e h = inr (x, e)
      by_test false e (inl none) = inl (rw e none)
      by_test false e (inr some) = inr some

  -- what all elements pass, the first that is left passes
  head_passes : (p q : X → Bool) (xs : List X) (z : X) (zs : List X) → list_all q xs ≡ true → filter p xs ≡ z ∷ zs → q z ≡ true
  head_passes p q [] z zs all is = cc
  head_passes p q (x ∷ xs) z zs all is = by_test (p x) refl (head_passes p q xs z zs both.1)
    where
      both : (q x ≡ true) × (list_all q xs ≡ true)
      both = and_parts (q x) (list_all q xs) all

      by_test : (b : Bool) → p x ≡ b → (filter p xs ≡ z ∷ zs → q z ≡ true) → q z ≡ true
      by_test true e h =
          let cons : x ∷ filter p xs ≡ z ∷ zs = sym (rw e refl) ∙ is in
          subst (λ u. q u ≡ true) (ap (λ l. slice_index_or l 0 z) cons) both.0
      by_test false e h = h (sym (rw e refl) ∙ is)

module _ {X : Type 0} (key : X → List ℕ) where
  abbrev pub less : X → X → Bool
  less x y = is_lt (slice_cmp nat_cmp (key x) (key y))

  abbrev pub named : List ℕ → X → Bool
  named name x = bytes_eq (key x) name

  pub order : IsStrictWeakOrder less
  order = ranks_by nat_list_cmp_total key

  -- no later element is less
  abbrev pub Rises : List X → Type 0
  Rises [] = ⊤
  Rises (x ∷ xs) = (list_all (λ y. not (less y x)) xs ≡ true) × Rises xs

  not_less : (x y : X) → less x y ≡ false → not (less x y) ≡ true
  not_less x y e = ap not e

  pub rises : (xs : List X) → IsSortedBy less xs → Rises xs
  rises [] h = tt
  rises (x ∷ xs) h = (
    all_pass (λ y. not (less y x)) xs (λ j d below. ap not (sorted_far less order (x ∷ xs) h 0 (suc j) d (omega arith) (omega (arith, below)))),
    rises xs (λ k d low high.
        let next : suc k + 1 ≡ suc (k + 1) = omega arith in
        subst (λ n. less (slice_index_or (x ∷ xs) n d) (slice_index_or xs k d) ≡ false) next (h (suc k) d (omega arith) (omega (arith, high)))),
  )

  later_not_less : (x : X) (xs : List X) (k : ℕ) (d : X) → list_all (λ y. not (less y x)) xs ≡ true → k < length xs → less (slice_index_or xs k d) x ≡ false
  later_not_less x xs k d all below = not-true (less (slice_index_or xs k d) x) (AllPass-from_list_all (λ y. not (less y x)) xs all k d below)

  pub sorted_from_rises : (xs : List X) → Rises xs → IsSortedBy less xs
  sorted_from_rises [] h = λ k d low high. absurd (omega (arith, high))
  sorted_from_rises (x ∷ xs) h = at (sorted_from_rises xs h.1)
    where
      at : IsSortedBy less xs → (k : ℕ) (d : X) → 0 ≤ k → k + 1 < length (x ∷ xs)
          → less (slice_index_or (x ∷ xs) (k + 1) d) (slice_index_or (x ∷ xs) k d) ≡ false
      at up zero d low high = later_not_less x xs 0 d h.0 (omega (arith, high))
      at up (suc k) d low high =
          let next : suc (k + 1) ≡ suc k + 1 = omega arith in
          subst (λ n. less (slice_index_or (x ∷ xs) n d) (slice_index_or xs k d) ≡ false) next (up k d (omega arith) (omega (arith, high)))

  ties_named : (x z : X) → ties less x z ≡ named (key x) z
  ties_named x z =
      ap (λ o. not (is_lt o) && not (less z x)) (nat_list_cmp_total.antisymm (key x) (key z)) ∙ tied (slice_cmp nat_cmp (key z) (key x))
      ∙ is_eq-slice_cmp (key z) (key x)

  pub stable_named : (xs ys : List X) → IsStableBy less xs ys → (name : List ℕ) → filter (named name) ys ≡ filter (named name) xs
  stable_named xs ys h name = by_found (find_passing (named name) xs) (find_passing (named name) ys)
    where
      at : (x : X) → named name x ≡ true → filter (named name) ys ≡ filter (named name) xs
      at x e =
          let same : key x ≡ name = (bytes_eq-Decides (key x) name).0 e in
          let test : ties less x ≡ named name = λ i z. (ties_named x z ∙ ap (λ k. named k z) same) i in
          ap (λ p. filter p ys) (sym test) ∙ h x ∙ ap (λ p. filter p xs) test

      by_found : (filter (named name) xs ≡ []) ⊎ ((x : X) × (named name x ≡ true)) → (filter (named name) ys ≡ []) ⊎ ((x : X) × (named name x ≡ true))
          → filter (named name) ys ≡ filter (named name) xs
      by_found (inr (x, e)) found = at x e
      by_found (inl none) (inr (x, e)) = at x e
      by_found (inl none) (inl empty) = empty ∙ sym none

  own_name : (x : X) → named (key x) x ≡ true
  own_name x = (bytes_eq-Decides (key x) (key x)).1 refl

  head_named : (x : X) (xs : List X) → filter (named (key x)) (x ∷ xs) ≡ x ∷ filter (named (key x)) xs
  head_named x xs = rw (own_name x) refl

  not_itself : (x : X) → not (less x x) ≡ true
  not_itself x = ap (λ o. not (is_lt o)) (tied_itself nat_list_cmp_total (key x))

  -- Lists in order that have the same elements of each name, in the same order, are one.
  pub one_order : (xs ys : List X) → Rises xs → Rises ys → ((name : List ℕ) → filter (named name) xs ≡ filter (named name) ys) → xs ≡ ys
  one_order [] [] up down same = refl
  one_order [] (y ∷ ys) up down same = let none : [] ≡ y ∷ filter (named (key y)) ys = same (key y) ∙ head_named y ys in cc
  one_order (x ∷ xs) [] up down same = let none : [] ≡ x ∷ filter (named (key x)) xs = sym (same (key x)) ∙ head_named x xs in cc
  one_order (x ∷ xs) (y ∷ ys) up down same = ap (λ z. z ∷ xs) one ∙ ap (λ l. y ∷ l) (one_order xs ys up.1 down.1 tails)
    where
      y_least : not (less y x) ≡ true
      y_least = head_passes (named (key y)) (λ z. not (less z x)) (x ∷ xs) y _ (and_from _ _ (not_itself x) up.0) (same (key y) ∙ head_named y ys)

      x_least : not (less x y) ≡ true
      x_least = head_passes (named (key x)) (λ z. not (less z y)) (y ∷ ys) x _ (and_from _ _ (not_itself y) down.0) (sym (same (key x)) ∙ head_named x xs)

      tie : named (key x) y ≡ true
      tie = sym (ties_named x y) ∙ and_from (not (less x y)) (not (less y x)) x_least y_least

      names : key y ≡ key x
      names = (bytes_eq-Decides (key y) (key x)).0 tie

      both : x ∷ filter (named (key x)) xs ≡ y ∷ filter (named (key x)) ys
      both = sym (head_named x xs) ∙ same (key x) ∙ rw tie refl

      one : x ≡ y
      one = ap (λ l. slice_index_or l 0 y) both

      tails : (name : List ℕ) → filter (named name) xs ≡ filter (named name) ys
      tails name = by_name (named name x) refl
        where
          by_name : (b : Bool) → named name x ≡ b → filter (named name) xs ≡ filter (named name) ys
          by_name true e = subst (λ k. filter (named k) xs ≡ filter (named k) ys) ((bytes_eq-Decides (key x) name).0 e) (ap (drop 1) both)
          by_name false e =
              let other : named name y ≡ false = ap (λ k. bytes_eq k name) names ∙ e in
              sym (rw e refl) ∙ same name ∙ rw other refl

-- ---- the pairs of a query in order

abbrev pair_name : Pair → List ℕ
pair_name p = decoded p.0

first_and : (a b c : Bool) → (a && (b && c)) ≡ (b && (a && c))
first_and true true c = refl
first_and true false c = refl
first_and false true c = refl
first_and false false c = refl

all-insert_pair : (t : Pair → Bool) (p : Pair) (qs : List Pair) → list_all t (insert_pair p qs) ≡ (t p && list_all t qs)
all-insert_pair t p [] = refl
all-insert_pair t p (q ∷ qs) = by_name (has_less_name q p) (all-insert_pair t p qs)
  where
    by_name : (b : Bool) → list_all t (insert_pair p qs) ≡ (t p && list_all t qs)
        → list_all t (cond b (q ∷ insert_pair p qs) (p ∷ q ∷ qs)) ≡ (t p && list_all t (q ∷ qs))
    by_name true h = ap (λ b. t q && b) h ∙ first_and (t q) (t p) (list_all t qs)
    by_name false h = refl

no_less_later : (p q : Pair) (qs : List Pair) → has_less_name q p ≡ false → list_all (λ z. not (has_less_name z q)) qs ≡ true
    → list_all (λ z. not (has_less_name z p)) qs ≡ true
no_less_later p q [] e h = refl
no_less_later p q (z ∷ qs) e h =
    let both = and_parts (not (has_less_name z q)) (list_all (λ z. not (has_less_name z q)) qs) h in
    and_from _ _ (ap not ((order pair_name).chain z q p (not-true (has_less_name z q) both.0) e)) (no_less_later p q qs e both.1)

rises-insert_pair : (p : Pair) (qs : List Pair) → Rises pair_name qs → Rises pair_name (insert_pair p qs)
rises-insert_pair p [] h = (refl, tt)
rises-insert_pair p (q ∷ qs) h = by_name (has_less_name q p) refl (rises-insert_pair p qs h.1)
  where
    by_name : (b : Bool) → has_less_name q p ≡ b → Rises pair_name (insert_pair p qs) → Rises pair_name (cond b (q ∷ insert_pair p qs) (p ∷ q ∷ qs))
    by_name true e k = (
      all-insert_pair (λ z. not (has_less_name z q)) p qs ∙ and_from _ _ (ap not ((order pair_name).one_way q p e)) h.0,
      k,
    )
    by_name false e k = (and_from _ _ (ap not e) (no_less_later p q qs e h.0), h)

named-insert_pair : (name : List ℕ) (p : Pair) (qs : List Pair) → filter (is_named name) (insert_pair p qs) ≡ filter (is_named name) (p ∷ qs)
named-insert_pair name p [] = refl
named-insert_pair name p (q ∷ qs) = by_name (has_less_name q p) refl (named-insert_pair name p qs)
  where
    apart : has_less_name q p ≡ true → is_named name q ≡ true → is_named name p ≡ true → ⊥
    apart e f g =
        let same : decoded q.0 ≡ decoded p.0 = (bytes_eq-Decides (decoded q.0) name).0 f ∙ sym ((bytes_eq-Decides (decoded p.0) name).0 g) in
        let none : has_less_name q p ≡ false = ap (λ k. is_lt (slice_cmp nat_cmp k (decoded p.0))) same ∙ ap is_lt (tied_itself nat_list_cmp_total (decoded p.0)) in
        false≢true (sym none ∙ e)

    by_both : has_less_name q p ≡ true → filter (is_named name) (insert_pair p qs) ≡ filter (is_named name) (p ∷ qs) → (b c : Bool) → is_named name q ≡ b → is_named name p ≡ c
        → filter (is_named name) (q ∷ insert_pair p qs) ≡ filter (is_named name) (p ∷ q ∷ qs)
    by_both e h true true f g = absurd (apart e f g)
    by_both e h true false f g = rw (f, g) (ap (λ l. q ∷ l) (h ∙ rw g refl))
    by_both e h false true f g = rw (f, g) (h ∙ rw g refl)
    by_both e h false false f g = rw (f, g) (h ∙ rw g refl)

    by_name : (b : Bool) → has_less_name q p ≡ b → filter (is_named name) (insert_pair p qs) ≡ filter (is_named name) (p ∷ qs)
        → filter (is_named name) (cond b (q ∷ insert_pair p qs) (p ∷ q ∷ qs)) ≡ filter (is_named name) (p ∷ q ∷ qs)
    by_name true e h = by_both e h (is_named name q) (is_named name p) refl refl
    by_name false e h = refl

pub rises-sorted_pairs : (ps : List Pair) → Rises pair_name (sorted_pairs ps)
rises-sorted_pairs [] = tt
rises-sorted_pairs (p ∷ ps) = rises-insert_pair p (sorted_pairs ps) (rises-sorted_pairs ps)

pub named-sorted_pairs : (name : List ℕ) (ps : List Pair) → filter (is_named name) (sorted_pairs ps) ≡ filter (is_named name) ps
named-sorted_pairs name [] = refl
named-sorted_pairs name (p ∷ ps) = named-insert_pair name p (sorted_pairs ps) ∙ by_name (is_named name p) (named-sorted_pairs name ps)
  where
    by_name : (b : Bool) → filter (is_named name) (sorted_pairs ps) ≡ filter (is_named name) ps
        → cond b (p ∷ filter (is_named name) (sorted_pairs ps)) (filter (is_named name) (sorted_pairs ps)) ≡ cond b (p ∷ filter (is_named name) ps) (filter (is_named name) ps)
    by_name true h = ap (λ l. p ∷ l) h
    by_name false h = h

moved-insert_pair : (p : Pair) (qs : List Pair) → IsPermutation (p ∷ qs) (insert_pair p qs)
moved-insert_pair p [] = IsPermutation-refl (p ∷ [])
moved-insert_pair p (q ∷ qs) = by_name (has_less_name q p) (moved-insert_pair p qs)
  where
    by_name : (b : Bool) → IsPermutation (p ∷ qs) (insert_pair p qs) → IsPermutation (p ∷ q ∷ qs) (cond b (q ∷ insert_pair p qs) (p ∷ q ∷ qs))
    by_name true h = IsPermutation-trans _ _ _ (IsPermutation-sym _ _ (IsPermutation-middle (q ∷ []) p qs)) (IsPermutation-cons q _ _ h)
    by_name false h = IsPermutation-refl (p ∷ q ∷ qs)

pub moved-sorted_pairs : (ps : List Pair) → IsPermutation ps (sorted_pairs ps)
moved-sorted_pairs [] = IsPermutation-refl []
moved-sorted_pairs (p ∷ ps) = IsPermutation-trans _ _ _ (IsPermutation-cons p _ _ (moved-sorted_pairs ps)) (moved-insert_pair p (sorted_pairs ps))

pub sorted_back : (ps qs : List Pair) → qs ≡ sorted_pairs ps → IsPermutation (map decoded_pair ps) (map decoded_pair qs)
sorted_back ps qs e = IsPermutation-map decoded_pair ps qs (subst (IsPermutation ps) (sym e) (moved-sorted_pairs ps))

pub ascending-sorted_pairs : (ps : List Pair) → IsSortedBy has_less_name (sorted_pairs ps)
ascending-sorted_pairs ps = sorted_from_rises pair_name (sorted_pairs ps) (rises-sorted_pairs ps)

pub one-sorted_pairs : (ps qs : List Pair) → IsSortedBy has_less_name qs → ((name : List ℕ) → filter (is_named name) qs ≡ filter (is_named name) ps)
    → qs ≡ sorted_pairs ps
one-sorted_pairs ps qs up same =
    one_order pair_name qs (sorted_pairs ps) (rises pair_name qs up) (rises-sorted_pairs ps) (λ name. same name ∙ sym (named-sorted_pairs name ps))

-- ---- the pieces, sorted

abbrev pub piece_name : Bor (List ℕ) → List ℕ
piece_name s = decoded (before equals_sign s.now)

abbrev pair_at : Bor (List ℕ) → Pair
pair_at s = pair_of s.now

filter-pairs : (name : List ℕ) (ss : List (Bor (List ℕ))) → filter (is_named name) (map pair_at ss) ≡ map pair_at (filter (named piece_name name) ss)
filter-pairs name [] = refl
filter-pairs name (s ∷ ss) = by_name (named piece_name name s) refl (filter-pairs name ss)
  where
    by_name : (b : Bool) → named piece_name name s ≡ b → filter (is_named name) (map pair_at ss) ≡ map pair_at (filter (named piece_name name) ss)
        → filter (is_named name) (map pair_at (s ∷ ss)) ≡ map pair_at (filter (named piece_name name) (s ∷ ss))
    by_name true e h = rw e (ap (λ l. pair_at s ∷ l) h)
    by_name false e h = rw e h

rises-pairs : (ss : List (Bor (List ℕ))) → Rises piece_name ss → Rises pair_name (map pair_at ss)
rises-pairs [] h = tt
rises-pairs (s ∷ ss) h = (list_all-map (λ z. not (has_less_name z (pair_at s))) pair_at ss ∙ h.0, rises-pairs ss h.1)

module _ (q : List ℕ) (ss ts : List (Bor (List ℕ))) where
  pub sorted_pieces : ArePieces q (map (λ s. s.now) ss) → IsPermutation ss ts → list_all is_piece (map (λ s. s.now) ts) ≡ true
  sorted_pieces are moved =
      let each : list_all (λ s. is_piece s.now) ss ≡ true = sym (list_all-map is_piece (λ s. s.now) ss) ∙ are.1 in
      list_all-map is_piece (λ s. s.now) ts
      ∙ list_all-from_AllPass (λ s. is_piece s.now) ts (All-permutation (λ s. is_piece s.now ≡ true) ss ts moved (AllPass-from_list_all (λ s. is_piece s.now) ss each))

  pub sorted_some : ArePieces q (map (λ s. s.now) ss) → IsPermutation ss ts → 0 < length (map (λ s. s.now) ts)
  sorted_some are moved =
      let some = some_piece q (map (λ s. s.now) ss) are.0 in
      let long = length-map ss (λ s. s.now) in
      let same = length_permutation ss ts moved in
      let wide = length-map ts (λ s. s.now) in
      omega (arith, some, long, same, wide)

  pub pieces_sorted : ArePieces q (map (λ s. s.now) ss) → IsSortedBy (less piece_name) ts → IsStableBy (less piece_name) ss ts
      → map pair_of (map (λ s. s.now) ts) ≡ sorted_pairs (pairs q)
  pieces_sorted are up kept =
      map-map pair_of (λ s. s.now) ts
      ∙ one_order pair_name (map pair_at ts) (sorted_pairs (pairs q)) (rises-pairs ts (rises piece_name ts up)) (rises-sorted_pairs (pairs q)) same
    where
      own : map pair_at ss ≡ pairs q
      own = sym (map-map pair_of (λ s. s.now) ss) ∙ ap (map pair_of) are.0

      same : (name : List ℕ) → filter (is_named name) (map pair_at ts) ≡ filter (is_named name) (sorted_pairs (pairs q))
      same name =
          filter-pairs name ts ∙ ap (map pair_at) (stable_named piece_name ss ts kept name) ∙ sym (filter-pairs name ss)
          ∙ ap (filter (is_named name)) own ∙ sym (named-sorted_pairs name (pairs q))
