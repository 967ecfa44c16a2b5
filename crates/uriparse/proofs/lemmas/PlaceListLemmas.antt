-- Byte strings that are put together from parts, each with a byte that ends it: which parts they begin with.
use Rattle.std.proofs.Common.{◌≡◌, ◌↔◌, ℕ, suc, ◌<◌, ◌≤◌, Bool, true, false, List, [], ◌∷◌, ◌++◌, length, reverse, Option, Some, None, refl, sym, ap, subst, ◌∙◌, append_assoc, arith, ◌⊎◌, inl, inr}
use Rattle.std.specs.Prelude.{IfSome, nat_lt}
use Rattle.std.specs.Cmp.{nat_cmp_is}
use Rattle.std.specs.Cmp.Lexicographic.{nat_list_cmp_total, slice_cmp}
use Rattle.std.specs.List.{flat_map, list_all, onto_first, slice_split}
use Rattle.std.specs.Ordering.{nat_cmp, ordering_then}
use Rattle.std.specs.declared.cmp.Ordering.{Ordering}
use Rattle.std.specs.declared.cmp.Ordering.TheVariants.{Less, Equal, Greater}
use Rattle.std.proofs.lemmas.Bool.{and_from, and_parts, cases_order}
use Rattle.std.proofs.lemmas.Bool.Decides.{nat_tests}
use Rattle.std.proofs.lemmas.Cmp.{tied_itself}
use Rattle.std.proofs.lemmas.List.{reverse-append, reverse-reverse}
use Rattle.std.proofs.lemmas.List.Folds.{list_all-append}
use Rattle.std.proofs.lemmas.List.Splits.{slice_split-cons_yes, slice_split-cons_no}
use Rattle.uriparse_authority.proofs.lemmas.authorities.OrderLemmas.{both_equal, same_lists}
use Rattle.uriparse.specs.PlaceKey.{BeginsWith, IsBetween, dot_end, successor}
use Rattle.uriparse.specs.SortKey.{AreKeyBytes, end, ended, is_key_byte, key_order, optional}

-- each byte is greater than those that end parts
abbrev pub AreHigh : List ℕ → Type 0
AreHigh t = list_all (λ b. nat_lt dot_end b) t ≡ true

abbrev pub AreAllHigh : List (List ℕ) → Type 0
AreAllHigh ts = list_all (λ t. list_all (λ b. nat_lt dot_end b) t) ts ≡ true

pub high_from : (b : ℕ) → nat_lt dot_end b ≡ true → 3 < b
high_from b h = grind (arith, nat_tests)

-- ---- the first bytes

unfoldable pub first : List ℕ → ℕ
first [] = 0
first (b ∷ t) = b

pub same_first : (a b : ℕ) (t u : List ℕ) → a ∷ t ≡ b ∷ u → a ≡ b
same_first a b t u e = cc

pub same_rest : (a b : ℕ) (t u : List ℕ) → a ∷ t ≡ b ∷ u → t ≡ u
same_rest a b t u e = cc

-- ---- one ended part

pub ended-before : (t r : List ℕ) → ended t ++ r ≡ t ++ end ∷ r
ended-before t r = append_assoc t (end ∷ []) r

pub ended_split : (t u r s : List ℕ) → AreHigh t → AreHigh u → t ++ end ∷ r ≡ u ++ end ∷ s → (t ≡ u) × (r ≡ s)
ended_split [] [] r s a b e = (refl, same_rest end end r s e)
ended_split [] (y ∷ u) r s a b e =
    let high = high_from y (and_parts (nat_lt dot_end y) _ b).0 in
    let same = same_first end y r (u ++ end ∷ s) e in
    absurd (omega (arith, high, same))
ended_split (x ∷ t) [] r s a b e =
    let high = high_from x (and_parts (nat_lt dot_end x) _ a).0 in
    let same = same_first x end (t ++ end ∷ r) s e in
    absurd (omega (arith, high, same))
ended_split (x ∷ t) (y ∷ u) r s a b e =
    let more = ended_split t u r s (and_parts (nat_lt dot_end x) _ a).1 (and_parts (nat_lt dot_end y) _ b).1 (same_rest x y _ _ e) in
    (ap (λ z. z ∷ t) (same_first x y _ _ e) ∙ ap (λ l. y ∷ l) more.0, more.1)

pub optional_split : (o p : Option (List ℕ)) (r s : List ℕ) → IfSome o AreHigh → IfSome p AreHigh → optional ended o ++ r ≡ optional ended p ++ s
    → (o ≡ p) × (r ≡ s)
optional_split None None r s a b e = (refl, same_rest 1 1 r s e)
optional_split None (Some u) r s a b e = let same = same_first 1 2 _ _ e in absurd (omega (arith, same))
optional_split (Some t) None r s a b e = let same = same_first 2 1 _ _ e in absurd (omega (arith, same))
optional_split (Some t) (Some u) r s a b e =
    let both = ended_split t u r s a b (sym (ended-before t r) ∙ same_rest 2 2 _ _ e ∙ ended-before u s) in
    (ap Some both.0, both.1)

-- ---- parts whose order is known

pub carried : (t u r s : List ℕ) (o : Ordering) → slice_cmp nat_cmp t u ≡ ordering_then o (slice_cmp nat_cmp r s) → t ≡ u → (o ≡ Equal) × (r ≡ s)
carried t u r s o h e =
    let both = both_equal o (slice_cmp nat_cmp r s) (sym h ∙ ap (slice_cmp nat_cmp t) (sym e) ∙ tied_itself nat_list_cmp_total t) in
    (both.0, same_lists r s both.1)

-- ---- ended parts in a row

row-cons : (x : List ℕ) (xs : List (List ℕ)) (r : List ℕ) → flat_map ended (x ∷ xs) ++ r ≡ x ++ end ∷ (flat_map ended xs ++ r)
row-cons x xs r = append_assoc (ended x) (flat_map ended xs) r ∙ ended-before x (flat_map ended xs ++ r)

-- a row doesn't begin with a byte that ends a host
not_ended : (y : List ℕ) (e : ℕ) (r s : List ℕ) → AreHigh y → end < e → e ≤ dot_end → e ∷ r ≡ y ++ end ∷ s → ⊥
not_ended [] e r s b low few h = let same = same_first e end r s h in absurd (omega (arith, low, same))
not_ended (c ∷ y) e r s b low few h =
    let high = high_from c (and_parts (nat_lt dot_end c) _ b).0 in
    let same = same_first e c r (y ++ end ∷ s) h in
    absurd (omega (arith, high, same, few))

pub row_begins : (xs ys : List (List ℕ)) (e : ℕ) (r s : List ℕ) → AreAllHigh xs → AreAllHigh ys → end < e → e ≤ dot_end
    → flat_map ended xs ++ e ∷ r ≡ flat_map ended ys ++ s → (zs : List (List ℕ)) × (xs ≡ ys ++ zs)
row_begins xs [] e r s a b low few h = (xs, refl)
row_begins [] (y ∷ ys) e r s a b low few h =
    absurd (not_ended y e r (flat_map ended ys ++ s) (and_parts _ _ b).0 low few (h ∙ row-cons y ys s))
row_begins (x ∷ xs) (y ∷ ys) e r s a b low few h =
    let both = ended_split x y (flat_map ended xs ++ e ∷ r) (flat_map ended ys ++ s) (and_parts _ _ a).0 (and_parts _ _ b).0
    (sym (row-cons x xs (e ∷ r)) ∙ h ∙ row-cons y ys s) in
    let more = row_begins xs ys e r s (and_parts _ _ a).1 (and_parts _ _ b).1 low few both.1 in
    (more.0, ap (λ z. z ∷ xs) both.0 ∙ ap (λ l. y ∷ l) more.1)

pub row_same : (xs ys : List (List ℕ)) (e f : ℕ) (r s : List ℕ) → AreAllHigh xs → AreAllHigh ys → end < e → e ≤ dot_end → end < f → f ≤ dot_end
    → flat_map ended xs ++ e ∷ r ≡ flat_map ended ys ++ f ∷ s → (xs ≡ ys) × (e ≡ f) × (r ≡ s)
row_same [] [] e f r s a b low few more many h = (refl, same_first e f r s h, same_rest e f r s h)
row_same [] (y ∷ ys) e f r s a b low few more many h =
    absurd (not_ended y e r (flat_map ended ys ++ f ∷ s) (and_parts _ _ b).0 low few (h ∙ row-cons y ys (f ∷ s)))
row_same (x ∷ xs) [] e f r s a b low few more many h =
    absurd (not_ended x f s (flat_map ended xs ++ e ∷ r) (and_parts _ _ a).0 more many (sym h ∙ row-cons x xs (e ∷ r)))
row_same (x ∷ xs) (y ∷ ys) e f r s a b low few more many h =
    let both = ended_split x y (flat_map ended xs ++ e ∷ r) (flat_map ended ys ++ f ∷ s) (and_parts _ _ a).0 (and_parts _ _ b).0
    (sym (row-cons x xs (e ∷ r)) ∙ h ∙ row-cons y ys (f ∷ s)) in
    let rest = row_same xs ys e f r s (and_parts _ _ a).1 (and_parts _ _ b).1 low few more many both.1 in
    (ap (λ z. z ∷ xs) both.0 ∙ ap (λ l. y ∷ l) rest.0, rest.1, rest.2)

-- ---- pieces of a text

-- each byte of each of these passes a test
abbrev pub AreAll : (ℕ → Bool) → List (List ℕ) → Type 0
AreAll p ts = list_all (λ t. list_all p t) ts ≡ true

pub pieces_all : (p cuts : ℕ → Bool) (t : List ℕ) → list_all p t ≡ true → AreAll p (slice_split cuts t)
pieces_all p cuts [] h = refl
pieces_all p cuts (b ∷ t) h =
    let both = and_parts (p b) _ h in by_cut (cuts b) refl both.0 (pieces_all p cuts t both.1)
  where
    onto : (ps : List (List ℕ)) → p b ≡ true → AreAll p ps → AreAll p (onto_first b ps)
    onto [] k i = and_from _ _ (and_from _ _ k refl) refl
    onto (s ∷ ps) k i = let each = and_parts _ _ i in and_from _ _ (and_from _ _ k each.0) each.1

    by_cut : (v : Bool) → cuts b ≡ v → p b ≡ true → AreAll p (slice_split cuts t) → AreAll p (slice_split cuts (b ∷ t))
    by_cut true e k i = subst (AreAll p) (sym (slice_split-cons_yes cuts b t e)) i
    by_cut false e k i = subst (AreAll p) (sym (slice_split-cons_no cuts b t e)) (onto (slice_split cuts t) k i)

pub reverse-cons : (x : List ℕ) (xs : List (List ℕ)) → reverse (x ∷ xs) ≡ reverse xs ++ x ∷ []
reverse-cons x xs = reverse-append (x ∷ []) xs

pub reversed_all : (p : ℕ → Bool) (xs : List (List ℕ)) → AreAll p xs → AreAll p (reverse xs)
reversed_all p [] h = refl
reversed_all p (x ∷ xs) h =
    let both = and_parts _ _ h in
    subst (AreAll p) (sym (reverse-cons x xs)) (list_all-append _ (reverse xs) (x ∷ []) ∙ and_from _ _ (reversed_all p xs both.1) (and_from _ _ both.0 refl))

-- lists of which one, reversed, begins with the other, reversed
pub reversed_begins : (xs ys zs : List (List ℕ)) → reverse xs ≡ reverse ys ++ zs → xs ≡ reverse zs ++ ys
reversed_begins xs ys zs e =
    sym (reverse-reverse xs) ∙ ap reverse e ∙ reverse-append (reverse ys) zs ∙ ap (λ l. reverse zs ++ l) (reverse-reverse ys)

pub reversed_same : (xs ys : List (List ℕ)) → reverse xs ≡ reverse ys → xs ≡ ys
reversed_same xs ys e = sym (reverse-reverse xs) ∙ ap reverse e ∙ reverse-reverse ys

-- ---- the successor of a prefix

less : (m n : ℕ) → m < n → nat_cmp m n ≡ Less
less m n h = sym (nat_cmp_is m n Less h)

greater : (m n : ℕ) → n < m → nat_cmp m n ≡ Greater
greater m n h = sym (nat_cmp_is m n Greater h)

tied : (m : ℕ) → nat_cmp m m ≡ Equal
tied m = sym (nat_cmp_is m m Equal refl)

not_less : (o : Ordering) → o ≡ Less → (o ≡ Greater) ⊎ (o ≡ Equal) → ⊥
not_less o e (inl f) = cc
not_less o e (inr f) = cc

-- a byte string isn't less than what it begins with
from_begin : (u rest : List ℕ) → key_order (u ++ rest) u ≡ Less → ⊥
from_begin [] [] e = cc
from_begin [] (r ∷ rest) e = cc
from_begin (b ∷ u) rest e = from_begin u rest (sym (ap (λ o. ordering_then o (key_order (u ++ rest) u)) (tied b)) ∙ e)

below_next : (u rest : List ℕ) → 0 < length u → key_order (u ++ rest) (successor u) ≡ Less
below_next [] rest some = absurd (omega (arith, some))
below_next (b ∷ []) rest some = ap (λ o. ordering_then o (key_order rest [])) (less b (suc b) (omega arith))
below_next (b ∷ c ∷ u) rest some =
    ap (λ o. ordering_then o (key_order ((c ∷ u) ++ rest) (successor (c ∷ u)))) (tied b) ∙ below_next (c ∷ u) rest (omega arith)

pub no_below : (t : List ℕ) → key_order t [] ≡ Less → ⊥
no_below [] e = cc
no_below (c ∷ t) e = cc

begins_between : (t u : List ℕ) → 0 < length u → IsBetween t u (successor u) → BeginsWith t u
begins_between t [] some is = absurd (omega (arith, some))
begins_between [] (b ∷ u) some is = absurd (is.from refl)
begins_between (c ∷ t) (b ∷ []) some is = by_order (cases_order c b)
  where
    next : (c ≡ suc b) ⊎ ((c < suc b) ⊎ (suc b < c)) → b < c → ⊥
    next (inl e) h = no_below t (sym (ap (λ o. ordering_then o (key_order t [])) (ap (λ x. nat_cmp x (suc b)) e ∙ tied (suc b))) ∙ is.below)
    next (inr (inl l)) h = absurd (omega (arith, l, h))
    next (inr (inr g)) h = not_less Greater (sym (ap (λ o. ordering_then o (key_order t [])) (greater c (suc b) g)) ∙ is.below) (inl refl)

    by_order : (c ≡ b) ⊎ ((c < b) ⊎ (b < c)) → BeginsWith (c ∷ t) (b ∷ [])
    by_order (inl e) = (t, ap (λ x. x ∷ t) e)
    by_order (inr (inl l)) = absurd (is.from (ap (λ o. ordering_then o (key_order t [])) (less c b l)))
    by_order (inr (inr g)) = absurd (next (cases_order c (suc b)) g)
begins_between (c ∷ t) (b ∷ d ∷ u) some is = by_order (λ i. begins_between t (d ∷ u) (omega arith) i) (cases_order c b)
  where
    equal : (IsBetween t (d ∷ u) (successor (d ∷ u)) → BeginsWith t (d ∷ u)) → c ≡ b → BeginsWith (c ∷ t) (b ∷ d ∷ u)
    equal again e =
        let same : nat_cmp c b ≡ Equal = ap (λ x. nat_cmp x b) e ∙ tied b in
        let more = again (record {
          from = λ h. is.from (ap (λ o. ordering_then o (key_order t (d ∷ u))) same ∙ h);
          below = sym (ap (λ o. ordering_then o (key_order t (successor (d ∷ u)))) same) ∙ is.below;
        }) in
        (more.0, ap (λ x. x ∷ t) e ∙ ap (λ l. b ∷ l) more.1)

    by_order : (IsBetween t (d ∷ u) (successor (d ∷ u)) → BeginsWith t (d ∷ u)) → (c ≡ b) ⊎ ((c < b) ⊎ (b < c)) → BeginsWith (c ∷ t) (b ∷ d ∷ u)
    by_order again (inl e) = equal again e
    by_order again (inr (inl l)) = absurd (is.from (ap (λ o. ordering_then o (key_order t (d ∷ u))) (less c b l)))
    by_order again (inr (inr g)) =
        absurd (not_less Greater (sym (ap (λ o. ordering_then o (key_order t (successor (d ∷ u)))) (greater c b g)) ∙ is.below) (inl refl))

-- what begins with a byte string is what is between it and its successor
pub between : (t u : List ℕ) → 0 < length u → BeginsWith t u ↔ IsBetween t u (successor u)
between t u some = (
  λ (rest, e). record {
    from = λ h. from_begin u rest (ap (λ x. key_order x u) (sym e) ∙ h);
    below = ap (λ x. key_order x (successor u)) e ∙ below_next u rest some;
  },
  begins_between t u some,
)

-- ---- a byte that no key has, after a prefix

key_below : (b : ℕ) → is_key_byte b ≡ true → b < 127
key_below b h = grind (arith, nat_tests)

below_last : (u rest : List ℕ) → AreKeyBytes (u ++ rest) → key_order (u ++ rest) (u ++ 127 ∷ []) ≡ Less
below_last [] [] h = refl
below_last [] (r ∷ rest) h = ap (λ o. ordering_then o (key_order rest [])) (less r 127 (key_below r (and_parts (is_key_byte r) _ h).0))
below_last (b ∷ u) rest h =
    ap (λ o. ordering_then o (key_order (u ++ rest) (u ++ 127 ∷ []))) (tied b) ∙ below_last u rest (and_parts (is_key_byte b) _ h).1

begins_below_last : (t u : List ℕ) → IsBetween t u (u ++ 127 ∷ []) → BeginsWith t u
begins_below_last t [] is = (t, refl)
begins_below_last [] (b ∷ u) is = absurd (is.from refl)
begins_below_last (c ∷ t) (b ∷ u) is = by_order (λ i. begins_below_last t u i) (cases_order c b)
  where
    equal : (IsBetween t u (u ++ 127 ∷ []) → BeginsWith t u) → c ≡ b → BeginsWith (c ∷ t) (b ∷ u)
    equal again e =
        let same : nat_cmp c b ≡ Equal = ap (λ x. nat_cmp x b) e ∙ tied b in
        let more = again (record {
          from = λ h. is.from (ap (λ o. ordering_then o (key_order t u)) same ∙ h);
          below = sym (ap (λ o. ordering_then o (key_order t (u ++ 127 ∷ []))) same) ∙ is.below;
        }) in
        (more.0, ap (λ x. x ∷ t) e ∙ ap (λ l. b ∷ l) more.1)

    by_order : (IsBetween t u (u ++ 127 ∷ []) → BeginsWith t u) → (c ≡ b) ⊎ ((c < b) ⊎ (b < c)) → BeginsWith (c ∷ t) (b ∷ u)
    by_order again (inl e) = equal again e
    by_order again (inr (inl l)) = absurd (is.from (ap (λ o. ordering_then o (key_order t u)) (less c b l)))
    by_order again (inr (inr g)) =
        absurd (not_less Greater (sym (ap (λ o. ordering_then o (key_order t (u ++ 127 ∷ []))) (greater c b g)) ∙ is.below) (inl refl))

-- what begins with a byte string, of those that have a key's bytes alone, is what is between it and itself with a greater byte after it
pub between_keys : (t u : List ℕ) → AreKeyBytes t → BeginsWith t u ↔ IsBetween t u (u ++ 127 ∷ [])
between_keys t u bytes = (
  λ (rest, e). record {
    from = λ h. from_begin u rest (ap (λ x. key_order x u) (sym e) ∙ h);
    below = ap (λ x. key_order x (u ++ 127 ∷ [])) e ∙ below_last u rest (subst AreKeyBytes e bytes);
  },
  begins_below_last t u,
)

pub not_below_itself : (t : List ℕ) → key_order t t ≡ Less → ⊥
not_below_itself t e = not_less Equal (sym (tied_itself nat_list_cmp_total t) ∙ e) (inr refl)
