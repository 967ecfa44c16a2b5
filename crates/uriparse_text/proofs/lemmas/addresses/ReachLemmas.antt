-- The row that decides where an address leads has the longest prefix.
use Rattle.std.proofs.Common.{◌≡◌, ℕ, zero, suc, ◌<◌, ◌≤◌, Bool, true, false, List, [], ◌∷◌, length, Some, None, refl, sym, ap, subst, ◌∙◌, arith}
use Rattle.std.specs.Prelude.{⊤, cond, nat_lt, slice_index_or}
use Rattle.std.specs.List.{AllByRecursion, Contains, find}
use Rattle.std.specs.List.Sorted.{IsPermutation}
use Rattle.std.proofs.lemmas.Bool.{false≢true}
use Rattle.std.proofs.lemmas.Bool.Decides.{nat_tests}
use Rattle.std.proofs.lemmas.List.Sorted.{Contains-permutation, IsPermutation-cons, IsPermutation-middle, IsPermutation-refl, IsPermutation-sym, IsPermutation-trans}
use Rattle.uriparse_text.specs.Reach.{Row, insert_row, longest_first, is_in, row_of, IsLongest}

-- each row has no more bits than this
abbrev AreUpTo : ℕ → List Row → Type 0
AreUpTo bits rows = AllByRecursion (λ s. s.bits ≤ bits) rows

-- each row has no more bits than the one before it
abbrev Falls : List Row → Type 0
Falls [] = ⊤
Falls (r ∷ rows) = AreUpTo r.bits rows × Falls rows

up_to_more : (m n : ℕ) (rows : List Row) → m ≤ n → AreUpTo m rows → AreUpTo n rows
up_to_more m n [] le h = tt
up_to_more m n (s ∷ rows) le h = (let first : s.bits ≤ m = h.0 in omega arith, up_to_more m n rows le h.1)

up_to-insert_row : (n : ℕ) (r : Row) (rows : List Row) → r.bits ≤ n → AreUpTo n rows → AreUpTo n (insert_row r rows)
up_to-insert_row n r [] le h = (le, tt)
up_to-insert_row n r (s ∷ rows) le h = by_bits (nat_lt r.bits s.bits) (up_to-insert_row n r rows le h.1)
  where
    by_bits : (b : Bool) → AreUpTo n (insert_row r rows) → AreUpTo n (cond b (s ∷ insert_row r rows) (r ∷ s ∷ rows))
    by_bits true k = (h.0, k)
    by_bits false k = (le, h)

falls-insert_row : (r : Row) (rows : List Row) → Falls rows → Falls (insert_row r rows)
falls-insert_row r [] h = (tt, tt)
falls-insert_row r (s ∷ rows) h = by_bits (nat_lt r.bits s.bits) refl (falls-insert_row r rows h.1)
  where
    by_bits : (b : Bool) → nat_lt r.bits s.bits ≡ b → Falls (insert_row r rows) → Falls (cond b (s ∷ insert_row r rows) (r ∷ s ∷ rows))
    by_bits true e k = let le : r.bits ≤ s.bits = grind (arith, nat_tests) in (up_to-insert_row s.bits r rows le h.0, k)
    by_bits false e k = let le : s.bits ≤ r.bits = grind (arith, nat_tests) in ((le, up_to_more s.bits r.bits rows le h.0), h)

falls-longest_first : (rows : List Row) → Falls (longest_first rows)
falls-longest_first [] = tt
falls-longest_first (r ∷ rows) = falls-insert_row r (longest_first rows) (falls-longest_first rows)

moved-insert_row : (r : Row) (rows : List Row) → IsPermutation (r ∷ rows) (insert_row r rows)
moved-insert_row r [] = IsPermutation-refl (r ∷ [])
moved-insert_row r (s ∷ rows) = by_bits (nat_lt r.bits s.bits) (moved-insert_row r rows)
  where
    by_bits : (b : Bool) → IsPermutation (r ∷ rows) (insert_row r rows) → IsPermutation (r ∷ s ∷ rows) (cond b (s ∷ insert_row r rows) (r ∷ s ∷ rows))
    by_bits true h = IsPermutation-trans _ _ _ (IsPermutation-sym _ _ (IsPermutation-middle (s ∷ []) r rows)) (IsPermutation-cons s _ _ h)
    by_bits false h = IsPermutation-refl (r ∷ s ∷ rows)

moved-longest_first : (rows : List Row) → IsPermutation rows (longest_first rows)
moved-longest_first [] = IsPermutation-refl []
moved-longest_first (r ∷ rows) = IsPermutation-trans _ _ _ (IsPermutation-cons r _ _ (moved-longest_first rows)) (moved-insert_row r (longest_first rows))

up_to-at : (n : ℕ) (rows : List Row) (s : Row) (k : ℕ) → AreUpTo n rows → k < length rows → slice_index_or rows k s ≡ s → s.bits ≤ n
up_to-at n [] s k h lt e = absurd (omega arith)
up_to-at n (r ∷ rows) s zero h lt e = subst (λ t. t.bits ≤ n) e h.0
up_to-at n (r ∷ rows) s (suc k) h lt e = up_to-at n rows s k h.1 (omega arith) e

-- what a row that is found in such a list is
record IsFound (passes : Row → Bool) (rows : List Row) (r : Row) : Type 0 where
  pub one : Contains rows r
  pub within : passes r ≡ true
  pub longest : (s : Row) (k : ℕ) → k < length rows → slice_index_or rows k s ≡ s → passes s ≡ true → s.bits ≤ r.bits

found : (passes : Row → Bool) (rows : List Row) (r : Row) → Falls rows → find passes rows ≡ Some r → IsFound passes rows r
found passes [] r h e = cc
found passes (s ∷ rows) r h e = by_test (passes s) refl e (λ f. found passes rows r h.1 f)
  where
    first : passes s ≡ true → (t : Row) (k : ℕ) → k < length (s ∷ rows) → slice_index_or (s ∷ rows) k t ≡ t → passes t ≡ true → t.bits ≤ s.bits
    first p t zero lt is q = subst (λ u. t.bits ≤ u.bits) (sym is) (omega arith)
    first p t (suc k) lt is q = up_to-at s.bits rows t k h.0 (omega arith) is

    later : passes s ≡ false → IsFound passes rows r → (t : Row) (k : ℕ) → k < length (s ∷ rows) → slice_index_or (s ∷ rows) k t ≡ t → passes t ≡ true → t.bits ≤ r.bits
    later p g t zero lt is q = absurd (false≢true (sym p ∙ ap passes is ∙ q))
    later p g t (suc k) lt is q = g.longest t k (omega arith) is q

    by_test : (b : Bool) → passes s ≡ b → cond b (Some s) (find passes rows) ≡ Some r → (find passes rows ≡ Some r → IsFound passes rows r) → IsFound passes (s ∷ rows) r
    by_test true p f g =
        let same : s ≡ r = cc in
        subst (IsFound passes (s ∷ rows)) same (record { one = (zero, omega arith, refl); within = p; longest = first p })
    by_test false p f g =
        let rest = g f in
        record { one = (suc rest.one.0, (let lt = rest.one.1 in omega arith), rest.one.2); within = rest.within; longest = later p rest }

pub row_of-longest : (width : ℕ) (rows : List Row) (address : List ℕ) (r : Row) → row_of width rows address ≡ Some r → IsLongest width rows address r
row_of-longest width rows address r e =
    let moved = moved-longest_first rows in
    let h = found (is_in width address) (longest_first rows) r (falls-longest_first rows) e in
    record {
      one = Contains-permutation (longest_first rows) rows r (IsPermutation-sym _ _ moved) h.one;
      within = h.within;
      longest = λ s among within. let there = Contains-permutation rows (longest_first rows) s moved among in h.longest s there.0 there.1 there.2 within;
    }

none_found : (passes : Row → Bool) (rows : List Row) (s : Row) (k : ℕ) → find passes rows ≡ None → k < length rows → slice_index_or rows k s ≡ s → passes s ≡ false
none_found passes [] s k e lt is = absurd (omega arith)
none_found passes (r ∷ rows) s k e lt is = by_test (passes r) refl e (λ f j below same. none_found passes rows s j f below same)
  where
    there : passes r ≡ false → ((j : ℕ) → j < length rows → slice_index_or rows j s ≡ s → passes s ≡ false) → (k : ℕ) → k < length (r ∷ rows)
        → slice_index_or (r ∷ rows) k s ≡ s → passes s ≡ false
    there p g zero below same = sym (ap passes same) ∙ p
    there p g (suc k) below same = g k (omega arith) same

    by_test : (b : Bool) → passes r ≡ b → cond b (Some r) (find passes rows) ≡ None
        → (find passes rows ≡ None → (j : ℕ) → j < length rows → slice_index_or rows j s ≡ s → passes s ≡ false) → passes s ≡ false
    by_test true p f g = cc
    by_test false p f g = there p (g f) k lt is

pub row_of-none : (width : ℕ) (rows : List Row) (address : List ℕ) → row_of width rows address ≡ None → (s : Row) → Contains rows s → is_in width address s ≡ false
row_of-none width rows address e s among =
    let there = Contains-permutation rows (longest_first rows) s (moved-longest_first rows) among in
    none_found (is_in width address) (longest_first rows) s there.0 e there.1 there.2
