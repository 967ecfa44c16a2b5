-- The place of the leftmost fault.
use Rattle.std.proofs.Common.{◌≡◌, ℕ, zero, suc, ◌+◌, ◌<◌, cond, Option, Some, None, Err, Bool, true, false, ◌||◌, List, [], ◌∷◌, length, take, drop, refl, sym, ap, ◌∙◌, arith}
use Rattle.std.specs.Prelude.{slice_get}
use Rattle.std.specs.Option.{option_map}
use Rattle.std.proofs.lemmas.Bool.{and_parts}
use Rattle.uriparse_text.specs.declared.internal.class.Class.{Class}
use Rattle.uriparse_text.specs.Bytes.{is_hex}
use Rattle.uriparse_text.specs.Classes.{is_plain}
use Rattle.uriparse_text.specs.Tokens.{is_escape}
use Rattle.uriparse_text.specs.Faults.{fault, begins_fine, IsFaultOffset}
use Rattle.uriparse_text.specs.Offset.{fault_offset, offset_after}
use Rattle.uriparse_text.specs.Readings.{if_present, reading_in, some_of, unless_fault}
use Rattle.uriparse_text.proofs.lemmas.classes.FaultLemmas.{fault-nil}
use Rattle.uriparse_text.proofs.lemmas.classes.FaultByByteLemmas.{fault-begins_fine, fault_of_rest, fine_plain, fine_escape, hex_plain}
use Rattle.uriparse_text.proofs.lemmas.tokens.TokenLemmas.{escape_at}

pub offset-fine : (class : Class) (b : ℕ) (t : List ℕ) → begins_fine class (b ∷ t) ≡ true → fault_offset class (b ∷ t) ≡ suc (fault_offset class t)
unfolding fault_offset
offset-fine class b t fine = ap (λ v. cond v (1 + fault_offset class t) 0) fine ∙ (omega arith)

pub offset-faulty : (class : Class) (b : ℕ) (t : List ℕ) → begins_fine class (b ∷ t) ≡ false → fault_offset class (b ∷ t) ≡ 0
unfolding fault_offset
offset-faulty class b t faulty = ap (λ v. cond v (1 + fault_offset class t) 0) faulty

pub offset-nil : (class : Class) → fault_offset class [] ≡ 0
unfolding fault_offset
offset-nil class = refl

-- the words of the walk say the same
pub offset_is : (class : Class) (text : List ℕ) (offset : ℕ) → IsFaultOffset class text offset → offset ≡ fault_offset class text
offset_is class [] offset is = let within = is.within in omega (arith, offset-nil class)
offset_is class (b ∷ t) zero is = sym (offset-faulty class b t (is.faulty (omega arith)))
offset_is class (b ∷ t) (suc offset) is =
    let within = is.within in
    let later = offset_is class t offset (record {
      within = omega arith;
      fine = λ k from before. is.fine (suc k) (omega arith) (omega arith);
      faulty = λ more. is.faulty (omega arith);
    }) in
    omega (arith, later, offset-fine class b t (is.fine 0 (omega arith) (omega arith)))

-- the fault is that of the byte at the place
pub fault_there : (class : Class) (text : List ℕ) → fault class text ≡ slice_get (drop (fault_offset class text) text) 0
fault_there class [] = fault-nil class ∙ sym (ap (λ n. slice_get (drop n []) 0) (offset-nil class))
fault_there class (b ∷ t) = by_test (begins_fine class (b ∷ t)) refl (fault_there class t)
  where
    by_test : (v : Bool) → begins_fine class (b ∷ t) ≡ v → fault class t ≡ slice_get (drop (fault_offset class t) t) 0
        → fault class (b ∷ t) ≡ slice_get (drop (fault_offset class (b ∷ t)) (b ∷ t)) 0
    by_test true e later = fault-begins_fine class b t e ∙ later ∙ sym (ap (λ n. slice_get (drop n (b ∷ t)) 0) (offset-fine class b t e))
    by_test false e later = fault_of_rest class (b ∷ t) (λ _. e) ∙ sym (ap (λ n. slice_get (drop n (b ∷ t)) 0) (offset-faulty class b t e))

-- a text with a fault has it before its end
pub fault_before_end : (class : Class) (text : List ℕ) (byte : ℕ) → fault class text ≡ Some byte → fault_offset class text < length text
fault_before_end class [] byte h = let none = fault-nil class in cc
fault_before_end class (b ∷ t) byte h = by_test (begins_fine class (b ∷ t)) refl (fault_before_end class t byte)
  where
    by_test : (v : Bool) → begins_fine class (b ∷ t) ≡ v → (fault class t ≡ Some byte → fault_offset class t < length t)
        → fault_offset class (b ∷ t) < length (b ∷ t)
    by_test true e shorter = let later = shorter (sym (fault-begins_fine class b t e) ∙ h) in omega (arith, later, offset-fine class b t e)
    by_test false e shorter = omega (arith, offset-faulty class b t e)

-- what precedes the place begins as finely: an escape's digits are fine themselves
fine_before : (class : Class) (b : ℕ) (t : List ℕ) → begins_fine class (b ∷ t) ≡ true → begins_fine class (b ∷ take (fault_offset class t) t) ≡ true
fine_before class b t fine = by_plain (is_plain class b) refl
  where
    by_escape : (u : List ℕ) → is_escape b u ≡ true → is_escape b (take (fault_offset class u) u) ≡ true
    by_escape [] is = cc
    by_escape (c ∷ []) is = cc
    by_escape (high ∷ low ∷ rest) is =
        let both = and_parts (is_hex high) (is_hex low) (escape_at b (high ∷ low ∷ rest) is).digits in
        let second = offset-fine class low rest (fine_plain class low rest (hex_plain class low both.1)) in
        let first = offset-fine class high (low ∷ rest) (fine_plain class high (low ∷ rest) (hex_plain class high both.0)) in
        let two : fault_offset class (high ∷ low ∷ rest) ≡ suc (suc (fault_offset class rest)) = omega (arith, first, second) in
        ap (λ n. is_escape b (take n (high ∷ low ∷ rest))) two ∙ is

    by_plain : (v : Bool) → is_plain class b ≡ v → begins_fine class (b ∷ take (fault_offset class t) t) ≡ true
    by_plain true e = fine_plain class b (take (fault_offset class t) t) e
    by_plain false e =
        fine_escape class b (take (fault_offset class t) t)
        (by_escape t (sym (ap (λ v. v || is_escape b t) e) ∙ fine))

-- what precedes the place has no fault
pub faultless_before : (class : Class) (text : List ℕ) → fault class (take (fault_offset class text) text) ≡ None
faultless_before class [] = ap (fault class) (ap (λ n. take n []) (offset-nil class)) ∙ fault-nil class
faultless_before class (b ∷ t) = by_test (begins_fine class (b ∷ t)) refl (faultless_before class t)
  where
    by_test : (v : Bool) → begins_fine class (b ∷ t) ≡ v → fault class (take (fault_offset class t) t) ≡ None
        → fault class (take (fault_offset class (b ∷ t)) (b ∷ t)) ≡ None
    by_test true e later =
        ap (λ n. fault class (take n (b ∷ t))) (offset-fine class b t e)
        ∙ fault-begins_fine class b (take (fault_offset class t) t) (fine_before class b t e) ∙ later
    by_test false e later = ap (λ n. fault class (take n (b ∷ t))) (offset-faulty class b t e) ∙ fault-nil class

-- a component with a fault has it before its end
pub present_before_end : {E : Type 0} (class : Class) (error_of : ℕ → E) (o : Option (List ℕ)) (e : E) (n : ℕ) → if_present (reading_in class error_of) o ≡ Err e
    → offset_after n (fault_offset class) o < offset_after n length o
present_before_end class error_of None e n h = cc
present_before_end class error_of (Some t) e n h = by_fault (fault class t) refl h
  where
    by_fault : (f : Option ℕ) → fault class t ≡ f → some_of (unless_fault (option_map error_of f) t) ≡ Err e → n + fault_offset class t < n + length t
    by_fault None f k = cc
    by_fault (Some b) f k = let s = fault_before_end class t b f in omega (arith, s)
