-- The leftmost fault, byte by byte: an escape's digits stand for themselves in each class, so the walk needn't pass
-- over them.
use Rattle.std.proofs.Common.{◌≡◌, ◌≢◌, ℕ, zero, suc, ◌+◌, ◌-◌, ◌<◌, ◌≤◌, cond, eqb, Option, Some, None, Bool, true, false, ◌||◌, List, [], ◌∷◌}
use Rattle.std.proofs.Common.{length, drop, get_or, refl, sym, ap, subst, ◌∙◌, arith, inl, inr, length-drop}
use Rattle.std.specs.Prelude.{not, MatchOption, ◌==◌, slice_get, unwrap_or}
use Rattle.std.specs.Int.{bit_at}
use Rattle.std.proofs.lemmas.Bool.{and_from, and_parts, cases_lt, eqb-true, eqb-false, false≢true}
use Rattle.std.proofs.lemmas.List.{drop_more}
use Rattle.std.proofs.Math.ListN.{drop_of_length-le}
use Rattle.std.proofs.lemmas.Nat.Bits.{bit_at-zero, bit_at-lt}
use Rattle.std.proofs.lemmas.Bool.Decides.{nat_tests}
use Rattle.uriparse_text.specs.declared.internal.class.Class.{Class}
use Rattle.uriparse_text.specs.Bytes.{percent, is_hex, is_unreserved}
use Rattle.uriparse_text.specs.Classes.{is_plain}
use Rattle.uriparse_text.specs.Tokens.{is_escape}
use Rattle.uriparse_text.specs.Faults.{fault, begins_fine, AllFine, AreInDoubt, IsFaultFrom, IsFaultOffset}
use Rattle.uriparse_text.specs.Marks.{AreMarks}
use Rattle.uriparse_text.proofs.lemmas.classes.ClassLemmas.{unreserved_plain}
use Rattle.uriparse_text.proofs.lemmas.scans.MarkLemmas.{marked}
use Rattle.uriparse_text.proofs.lemmas.tokens.TokenLemmas.{escape_at}
use Rattle.uriparse_text.proofs.lemmas.classes.FaultLemmas.{fault-nil, fault-plain, fault-escape, fault-here}

hex_unreserved : (b : ℕ) → is_hex b ≡ true → is_unreserved b ≡ true
unfolding is_unreserved
hex_unreserved b h = grind (arith, nat_tests)

pub hex_plain : (class : Class) (b : ℕ) → is_hex b ≡ true → is_plain class b ≡ true
hex_plain class b h = unreserved_plain class b (hex_unreserved b h)

-- the digits of an escape are no fault by themselves
fault-digits : (class : Class) (b : ℕ) (after : List ℕ) → is_escape b after ≡ true → fault class after ≡ fault class (drop 2 after)
fault-digits class b [] is = cc
fault-digits class b (c ∷ []) is = cc
fault-digits class b (high ∷ low ∷ rest) is =
    let both = and_parts (is_hex high) (is_hex low) (escape_at b (high ∷ low ∷ rest) is).digits in
    fault-plain class high (low ∷ rest) (hex_plain class high both.0) ∙ fault-plain class low rest (hex_plain class low both.1)

pub fault-begins_fine : (class : Class) (b : ℕ) (after : List ℕ) → begins_fine class (b ∷ after) ≡ true → fault class (b ∷ after) ≡ fault class after
fault-begins_fine class b after h = by_test (is_plain class b) refl h
  where
    by_test : (v : Bool) → is_plain class b ≡ v → (v || is_escape b after) ≡ true → fault class (b ∷ after) ≡ fault class after
    by_test true e k = fault-plain class b after e
    by_test false e k = fault-escape class b after k ∙ sym (fault-digits class b after k)

or_true : (v w : Bool) → w ≡ true → (v || w) ≡ true
or_true true w h = refl
or_true false w h = h

-- a byte of the class, or an escape
pub fine_plain : (class : Class) (b : ℕ) (after : List ℕ) → is_plain class b ≡ true → begins_fine class (b ∷ after) ≡ true
fine_plain class b after plain = rw plain refl

pub fine_escape : (class : Class) (b : ℕ) (after : List ℕ) → is_escape b after ≡ true → begins_fine class (b ∷ after) ≡ true
fine_escape class b after escape = or_true (is_plain class b) (is_escape b after) escape

-- fine bytes at the front can be passed over
fault-drop : (class : Class) (text : List ℕ) (j : ℕ) → AllFine class text 0 j → fault class (drop j text) ≡ fault class text
fault-drop class text zero fine = refl
fault-drop class [] (suc j) fine = refl
fault-drop class (b ∷ text) (suc j) fine =
    fault-drop class text j (λ k from to. fine (suc k) (omega arith) (omega arith)) ∙ sym (fault-begins_fine class b text (fine 0 (omega arith) (omega arith)))

pub all_fine_then : (class : Class) (text : List ℕ) (middle to : ℕ) → AllFine class text 0 middle → AllFine class text middle to → AllFine class text 0 to
all_fine_then class text middle to front back k from before =
    elim (cases_lt k middle) [ inl below ↦ front k from below | inr past ↦ back k past before ]

pub one_more_fine : (class : Class) (text : List ℕ) (at : ℕ) → AllFine class text 0 at → begins_fine class (drop at text) ≡ true → AllFine class text 0 (at + 1)
one_more_fine class text at fine here =
    all_fine_then class text at (at + 1) fine
    (λ k from before. let same : at ≡ k = omega arith in subst (λ i. begins_fine class (drop i text) ≡ true) same here)

-- neither a byte of the class nor an escape
pub not_fine : (class : Class) (b : ℕ) (after : List ℕ) → is_plain class b ≡ false → is_escape b after ≡ false → begins_fine class (b ∷ after) ≡ false
not_fine class b after plain never = rw (plain, never) refl

pub not_fine_at : (class : Class) (text : List ℕ) (i : ℕ) → i < length text → is_plain class (get_or text i 0) ≡ false
    → is_escape (get_or text i 0) (drop (i + 1) text) ≡ false → begins_fine class (drop i text) ≡ false
not_fine_at class text i within plain never =
    ap (begins_fine class) (drop_more text i 0 within) ∙ not_fine class (get_or text i 0) (drop (i + 1) text) plain never

-- of the marked bytes, those whose bit is unset are fine, and the others aren't plain
pub record AreLeft (class : Class) (text : List ℕ) (at n left : ℕ) : Type 0 where
  pub passed : (k : ℕ) → k < n → bit_at left k ≡ 0 → begins_fine class (drop (at + k) text) ≡ true
  pub waiting : (k : ℕ) → bit_at left k ≡ 1 → (k < n) × (is_plain class (get_or text (at + k) 0) ≡ false)

pub is_fine_plain : (class : Class) (text : List ℕ) (i : ℕ) → i < length text → is_plain class (get_or text i 0) ≡ true → begins_fine class (drop i text) ≡ true
is_fine_plain class text i within plain = ap (begins_fine class) (drop_more text i 0 within) ∙ fine_plain class (get_or text i 0) (drop (i + 1) text) plain

pub is_fine_escape : (class : Class) (text : List ℕ) (i : ℕ) → i < length text → is_escape (get_or text i 0) (drop (i + 1) text) ≡ true
    → begins_fine class (drop i text) ≡ true
is_fine_escape class text i within escape =
    ap (begins_fine class) (drop_more text i 0 within) ∙ fine_escape class (get_or text i 0) (drop (i + 1) text) escape

abbrev outside : Class → ℕ → Bool
outside class b = not (is_plain class b)

unset_plain : (b : Bool) → ◌≡◌ {A = ℕ} (cond (not b) 1 0) 0 → b ≡ true
unset_plain true h = refl
unset_plain false h = absurd (omega arith)

set_outside : (b : Bool) → ◌≡◌ {A = ℕ} (cond (not b) 1 0) 1 → b ≡ false
set_outside true h = absurd (omega arith)
set_outside false h = refl

module _ (class : Class) (text : List ℕ) (at n : ℕ) where
  pub unset_is_plain : (m k : ℕ) → AreMarks (outside class) text at n m → k < n → bit_at m k ≡ 0 → is_plain class (get_or text (at + k) 0) ≡ true
  unset_is_plain m k are h unset = unset_plain (is_plain class (get_or text (at + k) 0)) (sym (are.0 k h) ∙ unset)

  pub set_is_outside : (m k : ℕ) → AreMarks (outside class) text at n m → bit_at m k ≡ 1 → (k < n) × (is_plain class (get_or text (at + k) 0) ≡ false)
  set_is_outside m k are set = elim (cases_lt k n) [
    | inl h ↦ (h, set_outside (is_plain class (get_or text (at + k) 0)) (sym (are.0 k h) ∙ set))
    | inr h ↦ absurd (omega (arith, are.1 k h, set))
  ]

module _ (class : Class) (text : List ℕ) (at n : ℕ) (room : at + n ≤ length text) where
  pub left_at_first : (m : ℕ) → AreInDoubt class text at n m → AreLeft class text at n m
  left_at_first m are = record { passed = are.0; waiting = are.1 }

  marked_outside : (m k : ℕ) → AreMarks (outside class) text at n m → k < n → bit_at m k ≡ 0 → begins_fine class (drop (at + k) text) ≡ true
  marked_outside m k are h unset = is_fine_plain class text (at + k) (omega arith) (unset_is_plain class text at n m k are h unset)

  -- all bytes are of the class
  pub none_outside : (m : ℕ) → AreMarks (outside class) text at n m → m ≡ 0 → AllFine class text at (at + n)
  none_outside m are none k from before =
      let offset : at + (k - at) ≡ k = omega arith in
      subst (λ i. begins_fine class (drop i text) ≡ true) offset
      (marked_outside m (k - at) are (omega arith) (ap (λ x. bit_at x (k - at)) none ∙ bit_at-zero (k - at)))

  escape_is_fine : (signs digits k : ℕ) → AreMarks (λ b. b == percent) text at n signs → AreMarks is_hex text at n digits
      → bit_at signs k ≡ 1 → bit_at digits (1 + k) ≡ 1 → bit_at digits (2 + k) ≡ 1 → begins_fine class (drop (at + k) text) ≡ true
  escape_is_fine signs digits k sign_marks digit_marks sign high low =
      let s = marked (λ b. b == percent) text at n signs sign_marks k sign in
      let h = marked is_hex text at n digits digit_marks (1 + k) high in
      let l = marked is_hex text at n digits digit_marks (2 + k) low in
      let short = l.0 in
      let second : at + (1 + k) ≡ at + k + 1 = omega arith in
      let third : at + (2 + k) ≡ at + k + 1 + 1 = omega arith in
      let following : drop (at + k + 1) text ≡ get_or text (at + k + 1) 0 ∷ get_or text (at + k + 1 + 1) 0 ∷ drop (at + k + 1 + 1 + 1) text =
      drop_more text (at + k + 1) 0 (omega arith)
      ∙ ap (λ r. get_or text (at + k + 1) 0 ∷ r) (drop_more text (at + k + 1 + 1) 0 (omega arith)) in
      let digits_are =
      and_from _ _ (and_from _ _ s.1 (ap (λ i. is_hex (get_or text i 0)) (sym second) ∙ h.1))
      (ap (λ i. is_hex (get_or text i 0)) (sym third) ∙ l.1) in
      is_fine_escape class text (at + k) (omega arith) (ap (is_escape (get_or text (at + k) 0)) following ∙ digits_are)

  -- a byte outside the class is in doubt unless it is a sign that two digits follow
  pub in_doubt : (outs signs digits left : ℕ) → n ≤ 16 → AreMarks (outside class) text at n outs
      → AreMarks (λ b. b == percent) text at n signs → AreMarks is_hex text at n digits
      → ((k : ℕ) → bit_at left k ≡ 1 → bit_at outs k ≡ 1)
      → ((k : ℕ) → k < 64 → bit_at left k ≡ 0 → bit_at outs k ≡ 1 → (bit_at signs k ≡ 1) × (bit_at digits (1 + k) ≡ 1) × (bit_at digits (2 + k) ≡ 1))
      → AreInDoubt class text at n left
  in_doubt outs signs digits left short out_marks sign_marks digit_marks no_more gone =
      (fine, λ k set. set_is_outside class text at n outs k out_marks (no_more k set))
    where
      fine : (k : ℕ) → k < n → bit_at left k ≡ 0 → begins_fine class (drop (at + k) text) ≡ true
      fine k h unset = elim (cases_lt (bit_at outs k) 1) [
        | inl clear ↦ marked_outside outs k out_marks h (omega arith)
        | inr one ↦
            let t = gone k (omega arith) unset (omega (arith, bit_at-lt outs k)) in
            escape_is_fine signs digits k sign_marks digit_marks t.0 t.1 t.2
      ]

  pub left_within : (left k : ℕ) → AreLeft class text at n left → bit_at left k ≡ 1 → at + k < length text
  left_within left k is set = let within = (is.waiting k set).0 in omega arith

  -- an escape begins at the lowest bit
  pub left_after : (left k next : ℕ) → AreLeft class text at n left → bit_at left k ≡ 1 → is_escape (get_or text (at + k) 0) (drop (at + k + 1) text) ≡ true
      → ((j : ℕ) → j ≢ k → bit_at next j ≡ bit_at left j) → ((j : ℕ) → bit_at next j ≡ 1 → bit_at left j ≡ 1) → AreLeft class text at n next
  left_after left k next is set escape kept no_more = record {
    passed = λ j h unset. by_offset j h unset (eqb j k) refl;
    waiting = λ j h. is.waiting j (no_more j h);
  }
    where
      by_offset : (j : ℕ) → j < n → bit_at next j ≡ 0 → (v : Bool) → eqb j k ≡ v → begins_fine class (drop (at + j) text) ≡ true
      by_offset j h unset true e =
          let same : j ≡ k = eqb-true j k e in
          subst (λ i. begins_fine class (drop (at + i) text) ≡ true) (sym same) (is_fine_escape class text (at + k) (left_within left k is set) escape)
      by_offset j h unset false e = is.passed j h (sym (kept j (eqb-false j k e)) ∙ unset)

  fine_from : (left to : ℕ) → AreLeft class text at n left → to ≤ n → ((j : ℕ) → j < to → bit_at left j ≡ 0) → AllFine class text at (at + to)
  fine_from left to is short unset k from before =
      let offset : at + (k - at) ≡ k = omega arith in
      subst (λ i. begins_fine class (drop i text) ≡ true) offset (is.passed (k - at) (omega arith) (unset (k - at) (omega arith)))

  pub none_left : AreLeft class text at n 0 → AllFine class text at (at + n)
  none_left is = fine_from 0 n is (omega arith) (λ j _. bit_at-zero j)

  -- none does
  pub fault_left : (left k : ℕ) → AreLeft class text at n left → bit_at left k ≡ 1 → ((j : ℕ) → j < k → bit_at left j ≡ 0)
      → is_escape (get_or text (at + k) 0) (drop (at + k + 1) text) ≡ false → IsFaultFrom class text at (at + k)
  fault_left left k is set below never =
      let w = is.waiting k set in
      let short = w.0 in
      record {
        within = left_within left k is set;
        fine = fine_from left k is (omega arith) below;
        faulty = not_fine_at class text (at + k) (left_within left k is set) w.1 never;
      }

-- ---- the place of the leftmost fault

pub no_fault_offset : (class : Class) (text : List ℕ) (at : ℕ) → AllFine class text 0 at → at ≡ length text → IsFaultOffset class text at
no_fault_offset class text at fine end = record { within = omega arith; fine = fine; faulty = λ more. absurd (omega arith) }

pub fault_offset_from : (class : Class) (text : List ℕ) (at offset : ℕ) → AllFine class text 0 at → IsFaultFrom class text at offset
    → IsFaultOffset class text offset
fault_offset_from class text at offset fine is =
    let within = is.within in
    record { within = omega arith; fine = all_fine_then class text at offset fine is.fine; faulty = λ _. is.faulty }

pub last_run : (class : Class) (text : List ℕ) (at to : ℕ) (o : Option ℕ) → MatchOption o (AllFine class text at to) (λ offset. IsFaultFrom class text at offset)
    → AllFine class text 0 at → to ≡ length text → IsFaultOffset class text (unwrap_or o (length text))
last_run class text at to None h fine end =
    no_fault_offset class text (length text) (all_fine_then class text at (length text) fine (λ k from before. h k from (omega arith))) refl
last_run class text at to (Some offset) h fine end = fault_offset_from class text at offset fine h

-- what stands there decides
pub fault_of_rest : (class : Class) (rest : List ℕ) → (0 < length rest → begins_fine class rest ≡ false) → fault class rest ≡ slice_get rest 0
fault_of_rest class [] h = fault-nil class
fault_of_rest class (b ∷ after) h = by_test (is_plain class b) refl (is_escape b after) refl (h (omega arith))
  where
    by_test : (v : Bool) → is_plain class b ≡ v → (w : Bool) → is_escape b after ≡ w → begins_fine class (b ∷ after) ≡ false → fault class (b ∷ after) ≡ Some b
    by_test true e w f k = absurd (false≢true (sym k ∙ fine_plain class b after e))
    by_test false e true f k = absurd (false≢true (sym k ∙ fine_escape class b after f))
    by_test false e false f k = fault-here class b after e f

pub fault_at_offset : (class : Class) (text : List ℕ) (offset : ℕ) → IsFaultOffset class text offset → fault class text ≡ slice_get (drop offset text) 0
fault_at_offset class text offset is =
    let within = is.within in
    sym (fault-drop class text offset is.fine)
    ∙ fault_of_rest class (drop offset text) (λ more. is.faulty (omega (arith, length-drop offset text)))

pub fault_found : (class : Class) (text : List ℕ) (offset : ℕ) → IsFaultOffset class text offset → offset < length text → Some (get_or text offset 0) ≡ fault class text
fault_found class text offset is within =
    sym (fault_at_offset class text offset is ∙ ap (λ r. slice_get r 0) (drop_more text offset 0 within))

pub fault_absent : (class : Class) (text : List ℕ) (offset : ℕ) → IsFaultOffset class text offset → length text ≤ offset → None ≡ fault class text
fault_absent class text offset is past =
    sym (fault_at_offset class text offset is ∙ ap (λ r. slice_get r 0) (drop_of_length-le text past))
