-- The text before a mark that stands in no token of a class, by the leftmost fault of the whole.
use Rattle.std.proofs.Common.{◌≡◌, ℕ, ◌+◌, ◌<◌, Bool, true, false, cond, List, [], ◌∷◌, length, take, take_all, drop, get_or, Option, Some, None, refl, sym, ap}
use Rattle.std.proofs.Common.{◌∙◌, subst, arith}
use Rattle.std.specs.Prelude.{◌==◌, not, Ok, ◌||◌}
use Rattle.std.specs.Option.{option_map}
use Rattle.std.specs.List.{position_or_len}
use Rattle.std.proofs.lemmas.Bool.{false≢true, eqb-true}
use Rattle.std.proofs.lemmas.List.{drop_more}
use Rattle.std.proofs.Math.ListN.{drop_of_length-le}
use Rattle.uriparse_text.specs.declared.internal.class.Class.{Class}
use Rattle.uriparse_text.specs.Bytes.{percent, is_hex}
use Rattle.uriparse_text.specs.Classes.{is_plain}
use Rattle.uriparse_text.specs.Tokens.{is_escape}
use Rattle.uriparse_text.specs.Faults.{fault, begins_fine, EndsClass, IsFaultOffset, IsIn}
use Rattle.uriparse_text.specs.Cuts.{up_to, part, before, after}
use Rattle.uriparse_text.specs.Readings.{reading_in, unless_fault}
use Rattle.uriparse_text.proofs.lemmas.tokens.TokenLemmas.{no_escape_with, no_escape_across, not_percent}
use Rattle.uriparse_text.proofs.lemmas.classes.FaultLemmas.{fault-nil, fault-here, no_fault}
use Rattle.uriparse_text.proofs.lemmas.classes.FaultByByteLemmas.{fault-begins_fine, fault_of_rest, fault_found, fault_absent}
use Rattle.uriparse_text.proofs.lemmas.scans.ScanLemmas.{NoneBefore, found_here, found_nowhere}
use Rattle.uriparse_text.proofs.lemmas.readings.CutLemmas.{take_offset, drop_offset}

-- a fault other than the mark
abbrev pub other_fault : ℕ → Option ℕ → Option ℕ
other_fault mark None = None
other_fault mark (Some b) = cond (b == mark) None (Some b)

-- an escape precedes the first byte that passes or follows it, where no digit passes
pub escape-up_to : (p : ℕ → Bool) → ((c : ℕ) → p c ≡ true → is_hex c ≡ false) → (b : ℕ) (rest : List ℕ) → is_escape b (up_to p rest) ≡ is_escape b rest
escape-up_to p no_digit b [] = refl
escape-up_to p no_digit b (c ∷ []) = elim (p c) as (λ v. is_escape b (cond v [] (c ∷ [])) ≡ is_escape b (c ∷ [])) [ true ↦ refl | false ↦ refl ]
escape-up_to p no_digit b (c ∷ d ∷ rest) = by_first (p c) refl
  where
    by_second : (w : Bool) → p d ≡ w → is_escape b (c ∷ cond w [] (d ∷ up_to p rest)) ≡ is_escape b (c ∷ d ∷ rest)
    by_second true f = sym (no_escape_across b c d rest (no_digit d f))
    by_second false f = refl

    by_first : (v : Bool) → p c ≡ v → is_escape b (cond v [] (c ∷ cond (p d) [] (d ∷ up_to p rest))) ≡ is_escape b (c ∷ d ∷ rest)
    by_first true e = sym (no_escape_with b c (d ∷ rest) (no_digit c e))
    by_first false e = by_second (p d) refl

module _ (class : Class) (mark : ℕ) (ends : EndsClass class mark) where
  mark_no_digit : (c : ℕ) → (c == mark) ≡ true → is_hex c ≡ false
  mark_no_digit c e = ap is_hex (eqb-true c mark e) ∙ ends.no_digit

  mark_is_fault : (b : ℕ) (rest : List ℕ) → (b == mark) ≡ true → fault class (b ∷ rest) ≡ Some b
  mark_is_fault b rest e =
      let same : b ≡ mark = eqb-true b mark e in
      fault-here class b rest (ap (is_plain class) same ∙ ends.outside)
      (not_percent b rest (ap (λ x. not (x == percent)) same ∙ ap not ends.no_sign))

  -- the fault of the text before the mark is that of the whole, if that isn't the mark
  pub fault-before : (t : List ℕ) → fault class (before mark t) ≡ other_fault mark (fault class t)
  fault-before [] = fault-nil class ∙ ap (other_fault mark) (sym (fault-nil class))
  fault-before (b ∷ rest) = by_mark (b == mark) refl (fault-before rest)
    where
      fine_alike : begins_fine class (b ∷ before mark rest) ≡ begins_fine class (b ∷ rest)
      fine_alike = ap (λ v. is_plain class b || v) (escape-up_to (λ c. c == mark) mark_no_digit b rest)

      by_fine : (w : Bool) → begins_fine class (b ∷ rest) ≡ w → (b == mark) ≡ false → fault class (before mark rest) ≡ other_fault mark (fault class rest)
          → fault class (b ∷ before mark rest) ≡ other_fault mark (fault class (b ∷ rest))
      by_fine true f e h =
          fault-begins_fine class b (before mark rest) (fine_alike ∙ f) ∙ h ∙ ap (other_fault mark) (sym (fault-begins_fine class b rest f))
      by_fine false f e h =
          fault_of_rest class (b ∷ before mark rest) (λ _. fine_alike ∙ f)
          ∙ sym (ap (other_fault mark) (fault_of_rest class (b ∷ rest) (λ _. f)) ∙ ap (λ v. cond v None (Some b)) e)

      by_mark : (v : Bool) → (b == mark) ≡ v → fault class (before mark rest) ≡ other_fault mark (fault class rest)
          → fault class (cond v [] (b ∷ before mark rest)) ≡ other_fault mark (fault class (b ∷ rest))
      by_mark true e h =
          fault-nil class ∙ sym (ap (other_fault mark) (mark_is_fault b rest e) ∙ ap (λ v. cond v None (Some b)) e)
      by_mark false e h = by_fine (begins_fine class (b ∷ rest)) refl e h

  -- the class as a call returns it
  module _ (answered : Class) (same_class : answered ≡ class) (t : List ℕ) (offset : ℕ) (found : IsFaultOffset answered t offset) where
    is : IsFaultOffset class t offset
    is = subst (λ k. IsFaultOffset k t offset) same_class found

    -- a byte at which a token of the class begins isn't the mark
    no_mark_before : (k : ℕ) → k < offset → (get_or t k 0 == mark) ≡ false
    no_mark_before k h = by_test (get_or t k 0 == mark) refl
      where
        fine : begins_fine class (get_or t k 0 ∷ drop (k + 1) t) ≡ true
        fine = let within = is.within in ap (begins_fine class) (sym (drop_more t k 0 (omega arith))) ∙ is.fine k (omega arith) h

        by_test : (v : Bool) → (get_or t k 0 == mark) ≡ v → v ≡ false
        by_test true e =
            let same : get_or t k 0 ≡ mark = eqb-true (get_or t k 0) mark e in
            let never : is_escape (get_or t k 0) (drop (k + 1) t) ≡ false =
            not_percent (get_or t k 0) (drop (k + 1) t) (ap (λ x. not (x == percent)) same ∙ ap not ends.no_sign) in
            absurd (false≢true (sym (rw (ap (is_plain class) same ∙ ends.outside, never) refl) ∙ fine))
        by_test false e = refl

    none_before : NoneBefore (λ b. b == mark) t offset
    none_before = record { within = is.within; fail = no_mark_before }

    front_is_before : (o : Option ℕ) → fault class t ≡ o → offset ≡ position_or_len (λ b. b == mark) t → other_fault mark o ≡ None
        → (take offset t ≡ before mark t) × IsIn class (take offset t)
    front_is_before o e at none =
        let same : take offset t ≡ before mark t = ap (λ n. take n t) at ∙ take_offset (λ b. b == mark) t in
        (same, (no_fault class (take offset t)).0 (ap (fault class) same ∙ fault-before t ∙ ap (other_fault mark) e ∙ none))

    -- the whole text is of the class and has no mark,
    pub whole_text : offset ≡ length t → (t ≡ before mark t) × IsIn class t × (None ≡ after mark t)
    whole_text end =
        let at : offset ≡ position_or_len (λ b. b == mark) t = found_nowhere (λ b. b == mark) t offset none_before (omega arith) in
        let nothing : drop offset t ≡ [] = drop_of_length-le t (omega arith) in
        let all : take offset t ≡ t = take_all offset t (omega arith) in
        let front = front_is_before None (sym (fault_absent class t offset is (omega arith))) at refl in (
          sym all ∙ front.0,
          subst (IsIn class) all front.1,
          ap part (sym nothing ∙ ap (λ n. drop n t) at ∙ drop_offset (λ b. b == mark) t),
        )

    -- or what precedes the mark is,
    pub text_before : offset < length t → (get_or t offset 0 == mark) ≡ true
        → (take offset t ≡ before mark t) × IsIn class (take offset t) × (Some (drop (offset + 1) t) ≡ after mark t)
    text_before more e =
        let at : offset ≡ position_or_len (λ b. b == mark) t = found_here (λ b. b == mark) t offset none_before e in
        let front = front_is_before (Some (get_or t offset 0)) (sym (fault_found class t offset is more)) at (rw e refl) in (
          front.0,
          front.1,
          ap part (sym (drop_more t offset 0 more) ∙ ap (λ n. drop n t) at ∙ drop_offset (λ b. b == mark) t),
        )

    -- or it has another byte's fault
    pub fault_before : offset < length t → (get_or t offset 0 == mark) ≡ false → fault class (before mark t) ≡ Some (get_or t offset 0)
    fault_before more e =
        fault-before t ∙ ap (other_fault mark) (sym (fault_found class t offset is more)) ∙ ap (λ v. cond v None (Some (get_or t offset 0))) e

-- the result of reading a text of the class
pub reading-in : {E : Type 0} (class : Class) (error_of : ℕ → E) (t u : List ℕ) → u ≡ t → IsIn class u → reading_in class error_of t ≡ Ok u
reading-in class error_of t u same is =
    ap (reading_in class error_of) (sym same) ∙ ap (λ f. unless_fault (option_map error_of f) u) ((no_fault class u).1 is)
