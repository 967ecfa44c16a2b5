-- Reading a port is exact, and a printed port reads back.
use Rattle.std.proofs.Common.{◌≡◌, ◌⊎◌, ◌↔◌, ℕ, ◌+◌, ◌-◌, ◌*◌, ◌<◌, ◌≤◌, Bool, true, false, not, ◌&&◌, cond, List, [], ◌∷◌, ◌++◌, length, get_or, drop}
use Rattle.std.proofs.Common.{drop-cons, add-one, Option, Some, None, Ok, refl, sym, ap, ◌∙◌, subst, inl, inr, arith}
use Rattle.std.specs.Prelude.{nat_le, decimal}
use Rattle.std.specs.Char.{digit_value, is_digit, is_ascii_digit}
use Rattle.std.specs.Str.Parse.{digits_value, digits_value_after, AllDigits}
use Rattle.std.proofs.lemmas.Bool.{and_from, and_parts, cases_lt}
use Rattle.std.proofs.lemmas.Bool.Decides.{nat_tests}
use Rattle.std.proofs.lemmas.Fmt.{decimal_is_IsNumeral, decimal_injective}
use Rattle.uriparse_text.specs.Cuts.{lacks, up_to, from_first}
use Rattle.uriparse_text.specs.Readings.{unless_fault}
use Rattle.uriparse_text.proofs.lemmas.readings.CutLemmas.{lacks_by}
use Rattle.uriparse_text.proofs.lemmas.readings.ReadingLemmas.{IsExact}
use Rattle.uriparse_authority.specs.declared.authority.error.PortError.{PortError}
use Rattle.uriparse_authority.specs.declared.authority.error.PortError.TheVariants.{InvalidCharacter, Overflow}
use Rattle.uriparse_authority.specs.Port.{largest, IsPort, are_digits, value_of, Spells, HasOther, Passes, is_other, other_fault, fault, reading}

small_test : (n : ℕ) → n ≤ largest → nat_le n largest ≡ true
small_test n h = grind (arith, nat_tests)

large_test : (n : ℕ) → largest < n → nat_le n largest ≡ false
large_test n h = grind (arith, nat_tests)

small_or_large : (n : ℕ) → (n ≤ largest) ⊎ (largest < n)
small_or_large n = elim (cases_lt largest n) [ inl large ↦ inr large | inr small ↦ inl small ]

test_small : (n : ℕ) → nat_le n largest ≡ true → n ≤ largest
test_small n h = grind (arith, nat_tests)

-- ---- the fault, digit by digit

-- more digits never write less
grows : (t : List ℕ) (n : ℕ) → n ≤ digits_value_after 10 n t
grows [] n = omega arith
grows (b ∷ t) n = let h = grows t (n * 10 + digit_value b) in omega (arith, h)

-- the fault of a text that follows the digits of this number
abbrev pub fault_after : ℕ → List ℕ → Option PortError
fault_after n t = cond (nat_le (digits_value_after 10 n (up_to is_other t)) largest) (other_fault (from_first is_other t)) (Some Overflow)

pub fault_after-nil : (n : ℕ) → n ≤ largest → fault_after n [] ≡ None
fault_after-nil n h = rw (small_test n h) refl

fault_after-digit : (n b : ℕ) (t : List ℕ) → is_digit b 10 ≡ true → fault_after n (b ∷ t) ≡ fault_after (n * 10 + digit_value b) t
fault_after-digit n b t h = rw h refl

fault_after-other : (n b : ℕ) (t : List ℕ) → n ≤ largest → is_digit b 10 ≡ false → fault_after n (b ∷ t) ≡ Some InvalidCharacter
fault_after-other n b t small h = rw (h, small_test n small) refl

pub fault_after-large : (n : ℕ) (t : List ℕ) → largest < n → fault_after n t ≡ Some Overflow
fault_after-large n t h =
    let g = grows (up_to is_other t) n in
    rw (large_test (digits_value_after 10 n (up_to is_other t)) (omega (arith, g, h))) refl

-- ---- where the fault stands

-- what is read after a front of digits, and what they write with a digit more
after_digits : (n : ℕ) (front left : List ℕ) → are_digits front ≡ true → fault_after n (front ++ left) ≡ fault_after (digits_value_after 10 n front) left
after_digits n [] left h = refl
after_digits n (b ∷ front) left h =
    let both = and_parts (is_digit b 10) (are_digits front) h in
    fault_after-digit n b (front ++ left) both.0 ∙ after_digits (n * 10 + digit_value b) front left both.1

digit_more : (n : ℕ) (front : List ℕ) (b : ℕ) → digits_value_after 10 n (front ++ b ∷ []) ≡ digits_value_after 10 n front * 10 + digit_value b
digit_more n [] b = refl
digit_more n (c ∷ front) b = digit_more (n * 10 + digit_value c) front b

-- a faulty text after the digits of n: digits, and then the byte at fault
record IsAt (n : ℕ) (t : List ℕ) (AtFault : ℕ → ℕ → Type 0) : Type 0 where
  pub front : List ℕ
  pub byte : ℕ
  pub left : List ℕ
  pub whole : t ≡ front ++ byte ∷ left
  pub digits : are_digits front ≡ true
  pub in_range : digits_value_after 10 n front ≤ largest
  pub at_fault : AtFault (digits_value_after 10 n front) byte

abbrev IsOther : ℕ → ℕ → Type 0
IsOther n b = is_digit b 10 ≡ false

abbrev IsBeyond : ℕ → ℕ → Type 0
IsBeyond n b = (is_digit b 10 ≡ true) × (largest < n * 10 + digit_value b)

one_more : (n b : ℕ) (t : List ℕ) (AtFault : ℕ → ℕ → Type 0) → is_digit b 10 ≡ true → IsAt (n * 10 + digit_value b) t AtFault → IsAt n (b ∷ t) AtFault
one_more n b t AtFault digit is =
    record {
      front = b ∷ is.front;
      byte = is.byte;
      left = is.left;
      whole = ap (λ u. b ∷ u) is.whole;
      digits = and_from _ _ digit is.digits;
      in_range = is.in_range;
      at_fault = is.at_fault;
    }

-- the fault, and where it stands
abbrev IsFound : ℕ → List ℕ → Option PortError → Type 0
IsFound n t None = Unit {0}
IsFound n t (Some InvalidCharacter) = IsAt n t IsOther
IsFound n t (Some Overflow) = IsAt n t IsBeyond

found_more : (n b : ℕ) (t : List ℕ) (o : Option PortError) → is_digit b 10 ≡ true → IsFound (n * 10 + digit_value b) t o → IsFound n (b ∷ t) o
found_more n b t None digit is = tt
found_more n b t (Some InvalidCharacter) digit is = one_more n b t IsOther digit is
found_more n b t (Some Overflow) digit is = one_more n b t IsBeyond digit is

fault_found : (n : ℕ) (t : List ℕ) → n ≤ largest → IsFound n t (fault_after n t)
fault_found n [] h = subst (IsFound n []) (sym (fault_after-nil n h)) tt
fault_found n (b ∷ t) h = at_byte (is_digit b 10) refl (small_or_large (n * 10 + digit_value b)) (fault_found (n * 10 + digit_value b) t)
  where
    at_byte : (v : Bool) → is_digit b 10 ≡ v → (n * 10 + digit_value b ≤ largest) ⊎ (largest < n * 10 + digit_value b)
        → (n * 10 + digit_value b ≤ largest → IsFound (n * 10 + digit_value b) t (fault_after (n * 10 + digit_value b) t))
        → IsFound n (b ∷ t) (fault_after n (b ∷ t))
    at_byte false e size found =
        subst (IsFound n (b ∷ t)) (sym (fault_after-other n b t h e)) (record
        { front = []; byte = b; left = t; whole = refl; digits = refl; in_range = h; at_fault = e })
    at_byte true e (inl small) found =
        subst (IsFound n (b ∷ t)) (sym (fault_after-digit n b t e)) (found_more n b t (fault_after (n * 10 + digit_value b) t) e (found small))
    at_byte true e (inr large) found =
        subst (IsFound n (b ∷ t)) (sym (fault_after-digit n b t e ∙ fault_after-large (n * 10 + digit_value b) t large))
        (record { front = []; byte = b; left = t; whole = refl; digits = refl; in_range = h; at_fault = (e, large) })

other_there : (t : List ℕ) → IsAt 0 t IsOther → fault_after 0 t ≡ Some InvalidCharacter
other_there t is =
    ap (fault_after 0) is.whole ∙ after_digits 0 is.front (is.byte ∷ is.left) is.digits
    ∙ fault_after-other (digits_value_after 10 0 is.front) is.byte is.left is.in_range is.at_fault

beyond_there : (t : List ℕ) → IsAt 0 t IsBeyond → fault_after 0 t ≡ Some Overflow
beyond_there t is =
    let at_fault = is.at_fault in
    ap (fault_after 0) is.whole ∙ after_digits 0 is.front (is.byte ∷ is.left) is.digits
    ∙ fault_after-digit (digits_value_after 10 0 is.front) is.byte is.left at_fault.0
    ∙ fault_after-large (digits_value_after 10 0 is.front * 10 + digit_value is.byte) is.left at_fault.1

-- a byte that is no digit is at fault where the digits before it write a port
pub other_exactly : (t : List ℕ) → (fault t ≡ Some InvalidCharacter) ↔ HasOther t
other_exactly t = (
  (λ e. let is : IsAt 0 t IsOther = subst (IsFound 0 t) e (fault_found 0 t (omega arith)) in
      record { front = is.front; byte = is.byte; left = is.left; whole = is.whole; digits = is.digits; in_range = is.in_range; other = is.at_fault }),
  (λ is. other_there t (record {
    front = is.front;
    byte = is.byte;
    left = is.left;
    whole = is.whole;
    digits = is.digits;
    in_range = is.in_range;
    at_fault = is.other;
  })),
)

-- and a digit where the digits before it write one, and with it write none
pub passes_exactly : (t : List ℕ) → (fault t ≡ Some Overflow) ↔ Passes t
passes_exactly t = (
  (λ e. let is : IsAt 0 t IsBeyond = subst (IsFound 0 t) e (fault_found 0 t (omega arith)) in
      let at_fault = is.at_fault in
      record {
        front = is.front;
        byte = is.byte;
        left = is.left;
        whole = is.whole;
        digits = is.digits;
        in_range = is.in_range;
        digit = at_fault.0;
        beyond = subst (λ k. largest < k) (sym (digit_more 0 is.front is.byte)) at_fault.1;
      }),
  (λ is. beyond_there t (record {
    front = is.front;
    byte = is.byte;
    left = is.left;
    whole = is.whole;
    digits = is.digits;
    in_range = is.in_range;
    at_fault = (is.digit, subst (λ k. largest < k) (digit_more 0 is.front is.byte) is.beyond);
  })),
)

-- ---- the fault, met byte by byte

decimal_digit : (b : ℕ) → is_ascii_digit b ≡ true → is_digit b 10 ≡ true
decimal_digit b h = grind (arith, nat_tests)

no_decimal_digit : (b : ℕ) → is_ascii_digit b ≡ false → is_digit b 10 ≡ false
no_decimal_digit b h = grind (arith, nat_tests)

decimal_value : (b : ℕ) → is_ascii_digit b ≡ true → digit_value b ≡ b - 48
decimal_value b h = grind (arith, nat_tests)

cut_here : (i : ℕ) (t : List ℕ) → i < length t → drop i t ≡ get_or t i 0 ∷ drop (i + 1) t
cut_here i t below = rw add-one (drop-cons t i 0 below)

-- a byte that is no digit is met
pub meets_other : (n i : ℕ) (t : List ℕ) → n ≤ largest → i < length t → is_ascii_digit (get_or t i 0) ≡ false → fault_after n (drop i t) ≡ Some InvalidCharacter
meets_other n i t small below other =
    ap (fault_after n) (cut_here i t below) ∙ fault_after-other n (get_or t i 0) (drop (i + 1) t) small (no_decimal_digit (get_or t i 0) other)

-- a digit is read: what was to be read after n is what is left to read after m
pub record IsReadOn (n m : ℕ) (t left : List ℕ) : Type 0 where
  pub fault : fault_after n t ≡ fault_after m left
  pub value : digits_value_after 10 n t ≡ digits_value_after 10 m left

pub reads_digit : (n m i : ℕ) (t : List ℕ) → i < length t → is_ascii_digit (get_or t i 0) ≡ true → m ≡ n * 10 + (get_or t i 0 - 48)
    → IsReadOn n m (drop i t) (drop (i + 1) t)
reads_digit n m i t below digit is =
    let same : n * 10 + digit_value (get_or t i 0) ≡ m = omega (arith, decimal_value (get_or t i 0) digit, is) in
    record {
      fault =
          ap (fault_after n) (cut_here i t below)
          ∙ fault_after-digit n (get_or t i 0) (drop (i + 1) t) (decimal_digit (get_or t i 0) digit)
          ∙ ap (λ k. fault_after k (drop (i + 1) t)) same;
      value = ap (digits_value_after 10 n) (cut_here i t below) ∙ ap (λ k. digits_value_after 10 k (drop (i + 1) t)) same;
    }

pub value_of-some : (t : List ℕ) → 0 < length t → value_of t ≡ Some (digits_value 10 t)
value_of-some [] h = absurd (omega (arith, h))
value_of-some (b ∷ t) h = refl

-- ---- the reading is exact

up_to-digits : (t : List ℕ) → are_digits t ≡ true → up_to is_other t ≡ t
up_to-digits [] h = refl
up_to-digits (b ∷ t) h = let both = and_parts (is_digit b 10) (are_digits t) h in rw both.0 (ap (λ u. b ∷ u) (up_to-digits t both.1))

from_first-digits : (t : List ℕ) → are_digits t ≡ true → from_first is_other t ≡ []
from_first-digits [] h = refl
from_first-digits (b ∷ t) h = let both = and_parts (is_digit b 10) (are_digits t) h in rw both.0 (from_first-digits t both.1)

no_other : (t : List ℕ) → other_fault (from_first is_other t) ≡ None → are_digits t ≡ true
no_other [] h = refl
no_other (b ∷ t) h = by_test (is_digit b 10) (no_other t) h
  where
    by_test : (v : Bool) → (other_fault (from_first is_other t) ≡ None → are_digits t ≡ true)
        → other_fault (cond (not v) (b ∷ t) (from_first is_other t)) ≡ None → (v && are_digits t) ≡ true
    by_test true f k = f k
    by_test false f k = cc

again : (t : List ℕ) (port : Option ℕ) → Spells t port → reading t ≡ Ok port
again t port is =
    rw (up_to-digits t is.digits, from_first-digits t is.digits, small_test (digits_value 10 t) is.in_range) (ap Ok (sym is.value))

found : (t : List ℕ) (port : Option ℕ) → reading t ≡ Ok port → Spells t port
found t port h = by_tests (nat_le (digits_value 10 (up_to is_other t)) largest) (other_fault (from_first is_other t)) refl refl h
  where
    by_tests : (v : Bool) (o : Option PortError) → nat_le (digits_value 10 (up_to is_other t)) largest ≡ v → other_fault (from_first is_other t) ≡ o
        → unless_fault (cond v o (Some Overflow)) (value_of t) ≡ Ok port → Spells t port
    by_tests true None e f k =
        let digits = no_other t f in
        record {
          digits = digits;
          in_range = test_small (digits_value 10 t) (ap (λ u. nat_le (digits_value 10 u) largest) (sym (up_to-digits t digits)) ∙ e);
          value = cc;
        }
    by_tests true (Some x) e f k = cc
    by_tests false o e f k = cc

pub port_exact : IsExact Spells reading
port_exact = record { again = again; found = found }

-- ---- printed ports

all_digits : (t : List ℕ) → AllDigits 10 t → are_digits t ≡ true
all_digits [] h = refl
all_digits (b ∷ t) h = and_from _ _ (let small = h.0 in grind (arith, nat_tests, small)) (all_digits t h.1)

pub port_printed : (n : ℕ) → IsPort n → Spells (decimal n) (Some n)
port_printed n h =
    let numeral = decimal_is_IsNumeral n (omega (arith, h)) in
    let value = numeral.1 in
    record {
      digits = all_digits (decimal n) numeral.0.1;
      in_range = omega (arith, value, h);
      value = sym (value_of-some (decimal n) numeral.0.0 ∙ ap Some value);
    }

pub decimal_of_one_port : (n m : ℕ) → IsPort n → IsPort m → decimal n ≡ decimal m → n ≡ m
decimal_of_one_port n m h k same = decimal_injective n m (omega (arith, h)) (omega (arith, k)) same

-- ---- the bytes of a port

pub port_lacks : (b : ℕ) → is_digit b 10 ≡ false → (t : List ℕ) (port : Option ℕ) → Spells t port → lacks b t ≡ true
port_lacks b other t port is = lacks_by (λ c. is_digit c 10) b t other is.digits

pub decimal_lacks : (b : ℕ) → is_digit b 10 ≡ false → (n : ℕ) → IsPort n → lacks b (decimal n) ≡ true
decimal_lacks b other n h = port_lacks b other (decimal n) (Some n) (port_printed n h)
