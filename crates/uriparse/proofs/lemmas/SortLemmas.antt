-- Lists of bytes that carry an order: what follows them decides only between equals.
use Rattle.std.proofs.Common.{◌≡◌, ℕ, zero, suc, ◌+◌, ◌-◌, ◌*◌, ◌/◌, ◌%◌, ◌<◌, ◌≤◌, Bool, true, false, List, [], ◌∷◌, ◌++◌, Option, Some, None, length, refl, sym, ap, ◌∙◌, append_assoc, arith, inl, inr}
use Rattle.std.specs.Prelude.{◌⊎◌, ◌^◌, IfSome, cond, nat_lt, slice_index}
use Rattle.std.specs.List.{flat_map, list_all}
use Rattle.std.proofs.lemmas.Bool.{and_parts, cases_order}
use Rattle.std.proofs.lemmas.Bool.Decides.{nat_tests}
use Rattle.std.proofs.Math.Nat.{div-add-mod, div-lt_iff_lt-mul, mod-lt, mul-le-mul_left, mul-suc, one-le-pow, pow-succ', pow-zero}
use Rattle.std.proofs.Common.{drop, get_or, subst}
use Rattle.std.proofs.lemmas.List.{drop_more}
use Rattle.std.specs.Cmp.{nat_cmp_is}
use Rattle.std.specs.Cmp.Lexicographic.{slice_cmp}
use Rattle.std.specs.Option.{option_cmp, option_map}
use Rattle.std.specs.Ordering.{nat_cmp, ordering_then}
use Rattle.std.specs.declared.cmp.Ordering.{Ordering}
use Rattle.std.specs.declared.cmp.Ordering.TheVariants.{Less, Equal, Greater}
use Rattle.std.proofs.lemmas.Cmp.{nat_cmp_total, tied_itself}
use Rattle.std.specs.Char.{digit_char}
use Rattle.uriparse.specs.SortKey.{digits, ended, end, optional}

pub then_assoc : (a b c : Ordering) → ordering_then (ordering_then a b) c ≡ ordering_then a (ordering_then b c)
then_assoc Less b c = refl
then_assoc Equal b c = refl
then_assoc Greater b c = refl

-- What is written for some values decides as their order does, whatever follows.
abbrev pub Carries : {A : Type 0} → (A → Type 0) → (A → A → Ordering) → (A → List ℕ) → Type 0
Carries {A} ok R f =
    (x y : A) → ok x → ok y → (r s : List ℕ) → slice_cmp nat_cmp (f x ++ r) (f y ++ s) ≡ ordering_then (R x y) (slice_cmp nat_cmp r s)

pub optional_carries : {A : Type 0} (ok : A → Type 0) (R : A → A → Ordering) (f : A → List ℕ) → Carries ok R f
    → Carries (λ o. IfSome o ok) (option_cmp R) (optional f)
optional_carries ok R f h None None ox oy r s = refl
optional_carries ok R f h None (Some y) ox oy r s = refl
optional_carries ok R f h (Some x) None ox oy r s = refl
optional_carries ok R f h (Some x) (Some y) ox oy r s = h x y ox oy r s

-- each byte is greater than the one that ends a text
abbrev pub AreAbove : List ℕ → Type 0
AreAbove t = list_all (λ b. nat_lt end b) t ≡ true

less : (m n : ℕ) → m < n → nat_cmp m n ≡ Less
less m n h = sym (nat_cmp_is m n Less h)

greater : (m n : ℕ) → n < m → nat_cmp m n ≡ Greater
greater m n h = sym (nat_cmp_is m n Greater h)

tied : (m n : ℕ) → m ≡ n → nat_cmp m n ≡ Equal
tied m n h = sym (nat_cmp_is m n Equal h)

above_from : (b : ℕ) → nat_lt end b ≡ true → 1 < b
above_from b h = grind (arith, nat_tests)

pub ended_carries : (t u : List ℕ) → AreAbove t → AreAbove u → (r s : List ℕ)
    → slice_cmp nat_cmp (ended t ++ r) (ended u ++ s) ≡ ordering_then (slice_cmp nat_cmp t u) (slice_cmp nat_cmp r s)
ended_carries [] [] a b r s = refl
ended_carries [] (y ∷ u) a b r s =
    let high = above_from y (and_parts (nat_lt end y) _ b).0 in
    ap (λ o. ordering_then o (slice_cmp nat_cmp r (ended u ++ s))) (less 1 y high)
ended_carries (x ∷ t) [] a b r s =
    let high = above_from x (and_parts (nat_lt end x) _ a).0 in
    ap (λ o. ordering_then o (slice_cmp nat_cmp (ended t ++ r) s)) (greater x 1 high)
ended_carries (x ∷ t) (y ∷ u) a b r s =
    ap (ordering_then (nat_cmp x y)) (ended_carries t u (and_parts (nat_lt end x) _ a).1 (and_parts (nat_lt end y) _ b).1 r s)
    ∙ sym (then_assoc (nat_cmp x y) (slice_cmp nat_cmp t u) (slice_cmp nat_cmp r s))

-- ---- numbers

digit_less : (a b : ℕ) → a < b → b < 16 → digit_char a < digit_char b
digit_less a b h k = by_tests (nat_lt a 10) (nat_lt b 10) refl refl
  where
    by_tests : (v w : Bool) → nat_lt a 10 ≡ v → nat_lt b 10 ≡ w → cond v (48 + a) (87 + a) < cond w (48 + b) (87 + b)
    by_tests true true e f = omega arith
    by_tests true false e f = grind (arith, nat_tests)
    by_tests false true e f = grind (arith, nat_tests)
    by_tests false false e f = omega arith

digit_order : (a b : ℕ) → a < 16 → b < 16 → nat_cmp (digit_char a) (digit_char b) ≡ nat_cmp a b
digit_order a b h k = by_cases (cases_order a b)
  where
    by_cases : (a ≡ b) ⊎ ((a < b) ⊎ (b < a)) → nat_cmp (digit_char a) (digit_char b) ≡ nat_cmp a b
    by_cases (inl e) = tied (digit_char a) (digit_char b) (ap digit_char e) ∙ sym (tied a b e)
    by_cases (inr (inl l)) = less (digit_char a) (digit_char b) (digit_less a b l k) ∙ sym (less a b l)
    by_cases (inr (inr g)) = greater (digit_char a) (digit_char b) (digit_less b a g h) ∙ sym (greater a b g)

-- the quotients decide, and then the remainders
quotient_less : (c n m : ℕ) → 0 < c → n / c < m / c → n < m
quotient_less c n m pos h =
    let up : c * suc (n / c) ≤ c * (m / c) = mul-le-mul_left c (omega arith) in
    let whole : c * (n / c) + n % c ≡ n = div-add-mod n c in
    let other : c * (m / c) + m % c ≡ m = div-add-mod m c in
    let small : n % c < c = mod-lt n pos in
    let step : c * suc (n / c) ≡ c * (n / c) + c = mul-suc c (n / c) in
    omega arith

parts_order : (c n m : ℕ) → 0 < c → nat_cmp n m ≡ ordering_then (nat_cmp (n / c) (m / c)) (nat_cmp (n % c) (m % c))
parts_order c n m pos = by_cases (cases_order (n / c) (m / c)) (cases_order (n % c) (m % c))
  where
    whole : c * (n / c) + n % c ≡ n
    whole = div-add-mod n c

    other : c * (m / c) + m % c ≡ m
    other = div-add-mod m c

    by_cases : (n / c ≡ m / c) ⊎ ((n / c < m / c) ⊎ (m / c < n / c)) → (n % c ≡ m % c) ⊎ ((n % c < m % c) ⊎ (m % c < n % c))
        → nat_cmp n m ≡ ordering_then (nat_cmp (n / c) (m / c)) (nat_cmp (n % c) (m % c))
    by_cases (inr (inl l)) later = less n m (quotient_less c n m pos l) ∙ ap (λ o. ordering_then o (nat_cmp (n % c) (m % c))) (sym (less (n / c) (m / c) l))
    by_cases (inr (inr g)) later = greater n m (quotient_less c m n pos g) ∙ ap (λ o. ordering_then o (nat_cmp (n % c) (m % c))) (sym (greater (n / c) (m / c) g))
    by_cases (inl e) (inl f) =
        let same : c * (n / c) ≡ c * (m / c) = ap (λ q. c * q) e in
        tied n m (omega arith) ∙ sym (tied (n % c) (m % c) f) ∙ ap (λ o. ordering_then o (nat_cmp (n % c) (m % c))) (sym (tied (n / c) (m / c) e))
    by_cases (inl e) (inr (inl l)) =
        let same : c * (n / c) ≡ c * (m / c) = ap (λ q. c * q) e in
        less n m (omega arith) ∙ sym (less (n % c) (m % c) l) ∙ ap (λ o. ordering_then o (nat_cmp (n % c) (m % c))) (sym (tied (n / c) (m / c) e))
    by_cases (inl e) (inr (inr g)) =
        let same : c * (n / c) ≡ c * (m / c) = ap (λ q. c * q) e in
        greater n m (omega arith) ∙ sym (greater (n % c) (m % c) g) ∙ ap (λ o. ordering_then o (nat_cmp (n % c) (m % c))) (sym (tied (n / c) (m / c) e))

pub digits_carry : (base : ℕ) → 0 < base → base ≤ 16 → (k n m : ℕ) → n < base ^ k → m < base ^ k → (r s : List ℕ)
    → slice_cmp nat_cmp (digits base k n ++ r) (digits base k m ++ s) ≡ ordering_then (nat_cmp n m) (slice_cmp nat_cmp r s)
digits_carry base some few zero n m h l r s = ap (λ o. ordering_then o (slice_cmp nat_cmp r s)) (sym (tied n m (omega (arith, pow-zero base))))
digits_carry base some few (suc k) n m h l r s =
    let c = base ^ k in
    let pos : 0 < base ^ k = one-le-pow k base some in
    let q : n / base ^ k < base = (div-lt_iff_lt-mul pos).1 (subst (λ x. n < x) (pow-succ' base k) h) in
    let t : m / base ^ k < base = (div-lt_iff_lt-mul pos).1 (subst (λ x. m < x) (pow-succ' base k) l) in
    ap (λ o. ordering_then o (slice_cmp nat_cmp (digits base k (n % base ^ k) ++ r) (digits base k (m % base ^ k) ++ s))) (digit_order (n / base ^ k) (m / base ^ k) (omega arith) (omega arith))
    ∙ ap (ordering_then (nat_cmp (n / base ^ k) (m / base ^ k))) (digits_carry base some few k (n % base ^ k) (m % base ^ k) (mod-lt n pos) (mod-lt m pos) r s)
    ∙ sym (then_assoc (nat_cmp (n / base ^ k) (m / base ^ k)) (nat_cmp (n % base ^ k) (m % base ^ k)) (slice_cmp nat_cmp r s))
    ∙ ap (λ o. ordering_then o (slice_cmp nat_cmp r s)) (sym (parts_order (base ^ k) n m pos))

-- ---- lists of as many numbers

abbrev pub AreBelow : ℕ → List ℕ → Type 0
AreBelow n xs = (k : ℕ) → slice_index xs k < n

pub lists_carry : (base k : ℕ) → 0 < base → base ≤ 16 → (xs ys : List ℕ) → length xs ≡ length ys → AreBelow (base ^ k) xs → AreBelow (base ^ k) ys
    → (r s : List ℕ)
    → slice_cmp nat_cmp (flat_map (digits base k) xs ++ r) (flat_map (digits base k) ys ++ s) ≡ ordering_then (slice_cmp nat_cmp xs ys) (slice_cmp nat_cmp r s)
lists_carry base k some few [] [] e v w r s = refl
lists_carry base k some few [] (y ∷ ys) e v w r s = absurd (omega arith)
lists_carry base k some few (x ∷ xs) [] e v w r s = absurd (omega arith)
lists_carry base k some few (x ∷ xs) (y ∷ ys) e v w r s =
    ap (λ t. slice_cmp nat_cmp t ((digits base k y ++ flat_map (digits base k) ys) ++ s)) (append_assoc (digits base k x) (flat_map (digits base k) xs) r)
    ∙ ap (slice_cmp nat_cmp (digits base k x ++ (flat_map (digits base k) xs ++ r))) (append_assoc (digits base k y) (flat_map (digits base k) ys) s)
    ∙ digits_carry base some few k x y (v 0) (w 0) (flat_map (digits base k) xs ++ r) (flat_map (digits base k) ys ++ s)
    ∙ ap (ordering_then (nat_cmp x y)) (lists_carry base k some few xs ys (omega arith) (λ i. v (suc i)) (λ i. w (suc i)) r s)
    ∙ sym (then_assoc (nat_cmp x y) (slice_cmp nat_cmp xs ys) (slice_cmp nat_cmp r s))

-- ---- what is put for one number more

pub one_more : (f : ℕ → List ℕ) (a : List ℕ) (i j : ℕ) (t : List ℕ) → i + 1 ≡ j → i < length a
    → f (get_or a i 0) ++ (flat_map f (drop j a) ++ t) ≡ flat_map f (drop i a) ++ t
one_more f a i j t e inside =
    ap (λ k. f (get_or a i 0) ++ (flat_map f (drop k a) ++ t)) (sym e)
    ∙ sym (append_assoc (f (get_or a i 0)) (flat_map f (drop (i + 1) a)) t)
    ∙ ap (λ l. flat_map f l ++ t) (sym (drop_more a i 0 inside))
