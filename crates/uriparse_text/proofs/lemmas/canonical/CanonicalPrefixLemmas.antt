-- Bytes of a class that stay as they are in a canonical spelling.
use Rattle.std.proofs.Common.{◌≡◌, ℕ, zero, suc, ◌+◌, ◌-◌, ◌<◌, ◌≤◌, cond, Bool, true, false, ◌&&◌, ◌||◌, List, [], ◌∷◌, length, map, max, bit_or, take, take_all, drop, get_or}
use Rattle.std.proofs.Common.{refl, sym, ap, subst, ◌∙◌, arith}
use Rattle.std.specs.Prelude.{not, ◌==◌}
use Rattle.std.specs.List.{list_all, position_or_len}
use Rattle.std.proofs.Math.Numerals.{one-add}
use Rattle.std.specs.Simd.Lanes.{mask_l}
use Rattle.std.proofs.lemmas.Nat.Bits.{bit_at_or, same_from_bits}
use Rattle.std.proofs.lemmas.Simd.{bit_mask_l}
use Rattle.std.proofs.lemmas.Bool.{and_from, and_parts, eqb-true, false≢true}
use Rattle.std.proofs.lemmas.List.{drop-drop, length-drop}
use Rattle.std.proofs.lemmas.List.Sums.{fails_before_first}
use Rattle.uriparse_text.specs.declared.internal.class.Class.{Class}
use Rattle.uriparse_text.specs.declared.internal.token.Case.{Case}
use Rattle.uriparse_text.specs.Bytes.{percent}
use Rattle.uriparse_text.specs.Classes.{is_plain}
use Rattle.uriparse_text.specs.Faults.{begins_fine, AllFine, IsIn, IsFaultOffset}
use Rattle.uriparse_text.specs.Canonical.{canonical_in, in_case, may_change}
use Rattle.uriparse_text.specs.Spelling.{IsValidText, is_canonical_byte}
use Rattle.uriparse_text.proofs.lemmas.classes.ClassLemmas.{is_token-allows}
use Rattle.uriparse_text.proofs.lemmas.canonical.CanonicalLemmas.{canonical_in-nil}
use Rattle.uriparse_text.proofs.lemmas.readings.CutLemmas.{weaker}
use Rattle.uriparse_text.proofs.lemmas.classes.FaultLemmas.{IsIn-plain}
use Rattle.uriparse_text.proofs.lemmas.classes.FaultByByteLemmas.{all_fine_then, is_fine_plain, not_fine_at}
use Rattle.uriparse_text.proofs.lemmas.canonical.RunLemmas.{canonical_in-stays, no_escape}
use Rattle.uriparse_text.specs.declared.internal.token.Token.TheVariants.{Byte}

not_true : (v : Bool) → not v ≡ true → v ≡ false
not_true true h = sym h
not_true false h = refl

not_false : (v : Bool) → not v ≡ false → v ≡ true
not_false true h = refl
not_false false h = sym h

neither : (v w : Bool) → not v ≡ true → w ≡ true → (v || not w) ≡ false
neither true w h k = sym h
neither false true h k = refl
neither false false h k = sym k

no_sign : (v w : Bool) → not v ≡ true → (v || not w) ≡ not w
no_sign true w h = absurd (false≢true h)
no_sign false w h = refl

-- ---- the marks of bytes that pass one of two tests

module _ (p q r : ℕ → Bool) (same : (b : ℕ) → (p b || q b) ≡ r b) where
  greater : (v w : Bool) → max (cond v 1 0) (cond w 1 0) ≡ cond (v || w) 1 0
  greater true true = refl
  greater true false = refl
  greater false true = refl
  greater false false = refl

  either : (v : List ℕ) (i : ℕ) → max (cond (get_or (map p v) i false) 1 0) (cond (get_or (map q v) i false) 1 0) ≡ cond (get_or (map r v) i false) 1 0
  either [] zero = refl
  either [] (suc i) = refl
  either (b ∷ v) zero = greater (p b) (q b) ∙ ap (λ x. cond x 1 0) (same b)
  either (b ∷ v) (suc i) = either v i

  pub masks_of_either : (v : List ℕ) → bit_or (mask_l (map p v)) (mask_l (map q v)) ≡ mask_l (map r v)
  masks_of_either v =
      same_from_bits _ _ (λ i. bit_at_or (mask_l (map p v)) (mask_l (map q v)) i
      ∙ rw (bit_mask_l (map p v) i, bit_mask_l (map q v) i, bit_mask_l (map r v) i) (either v i))

-- ---- canonical bytes

module _ (class : Class) (case : Case) where
  abbrev not_canonical : ℕ → Bool
  not_canonical b = not (is_canonical_byte class case b)

  canonical_plain : (b : ℕ) → is_canonical_byte class case b ≡ true → is_plain class b ≡ true
  canonical_plain b h = (and_parts (is_plain class b) (in_case case b == b) h).0

  pub not_canonical_parts : (b : ℕ) → (not (is_plain class b) || may_change case b) ≡ not (is_canonical_byte class case b)
  not_canonical_parts b = by_plain (is_plain class b) refl
    where
      by_plain : (v : Bool) → is_plain class b ≡ v → (not v || may_change case b) ≡ not (v && in_case case b == b)
      by_plain true e = no_sign (b == percent) (in_case case b == b) (is_token-allows class (Byte b) e)
      by_plain false e = refl

  stays : (b : ℕ) → is_canonical_byte class case b ≡ true → may_change case b ≡ false
  stays b h =
      let both = and_parts (is_plain class b) (in_case case b == b) h in
      neither (b == percent) (in_case case b == b) (is_token-allows class (Byte b) both.0) both.1

  canonical_same : (t : List ℕ) → list_all (is_canonical_byte class case) t ≡ true → canonical_in case t ≡ t
  canonical_same [] h = canonical_in-nil case
  canonical_same (b ∷ t) h =
      let both = and_parts _ _ h in
      canonical_in-stays case b t (stays b both.0) ∙ ap (λ u. b ∷ u) (canonical_same t both.1)

  -- a text of such bytes alone is canonical
  pub canonical_kept : (t : List ℕ) → list_all (is_canonical_byte class case) t ≡ true → (known : Bool) → IsValidText class case known t
  canonical_kept t h known = record {
    inside = IsIn-plain class t (weaker (is_canonical_byte class case) (is_plain class) canonical_plain t h);
    canonical = λ _. canonical_same t h;
  }

  pub canonical_front : (t : List ℕ) → list_all (is_canonical_byte class case) (take (position_or_len not_canonical t) t) ≡ true
  canonical_front [] = refl
  canonical_front (b ∷ t) = by_first (is_canonical_byte class case b) refl (canonical_front t)
    where
      by_first : (v : Bool) → is_canonical_byte class case b ≡ v → list_all (is_canonical_byte class case) (take (position_or_len not_canonical t) t) ≡ true
          → list_all (is_canonical_byte class case) (take (cond (not (not v)) (1 + position_or_len not_canonical t) 0) (b ∷ t)) ≡ true
      by_first true e h = rw one-add (and_from _ _ e h)
      by_first false e h = refl

  module _ (t : List ℕ) (n : ℕ) (at : n ≡ position_or_len not_canonical t) where
    -- all of the text is canonical
    pub all_canonical : n ≡ length t → (known : Bool) → IsValidText class case known t
    all_canonical end known =
        canonical_kept t (subst (λ u. list_all (is_canonical_byte class case) u ≡ true) (ap (λ i. take i t) (sym at) ∙ take_all n t (omega arith)) (canonical_front t)) known

    pub canonical_take : (known : Bool) → IsValidText class case known (take n t)
    canonical_take known =
        canonical_kept (take n t) (subst (λ i. list_all (is_canonical_byte class case) (take i t) ≡ true) (sym at) (canonical_front t)) known

    pub canonical_fine : n ≤ length t → AllFine class t 0 n
    canonical_fine within k low high =
        let passes : is_canonical_byte class case (get_or t k 0) ≡ true =
        not_false (is_canonical_byte class case (get_or t k 0)) (fails_before_first not_canonical t k 0 (subst (λ i. k < i) at high)) in
        is_fine_plain class t k (omega arith) (canonical_plain (get_or t k 0) passes)

    pub fault_offset_end : n ≡ length t → IsFaultOffset class t n
    fault_offset_end end = record { within = omega arith; fine = canonical_fine (omega arith); faulty = λ more. absurd (omega arith) }

    pub fault_offset_here : n < length t → (get_or t n 0 == percent) ≡ false → is_plain class (get_or t n 0) ≡ false → IsFaultOffset class t n
    fault_offset_here within no_sign outside = record {
      within = omega arith;
      fine = canonical_fine (omega arith);
      faulty = λ more. not_fine_at class t n within outside (no_escape (get_or t n 0) (drop (n + 1) t) no_sign);
    }

-- ---- the leftmost fault of the rest after fine bytes

pub fault_offset_after : (class : Class) (t : List ℕ) (n offset : ℕ) → n ≤ length t → AllFine class t 0 n → IsFaultOffset class (drop n t) offset
    → IsFaultOffset class t (n + offset)
fault_offset_after class t n offset within fine is =
    let inside = is.within in
    record {
      within = omega (arith, length-drop n t);
      fine = all_fine_then class t n (n + offset) fine (λ k low high.
          let same : drop (k - n) (drop n t) ≡ drop k t = drop-drop (k - n) n t ∙ ap (λ i. drop i t) (let e : n + (k - n) ≡ k = omega arith in e) in
          subst (λ u. begins_fine class u ≡ true) same (is.fine (k - n) (omega arith) (omega arith)));
      faulty = λ more. subst (λ u. begins_fine class u ≡ false) (drop-drop offset n t) (is.faulty (omega (arith, length-drop n t)));
    }

-- ---- what is known of a text whose canonical bytes were counted, by the class and the case that calls return

module _ (class answered_class : Class) (case answered_case : Case) (same_class : answered_class ≡ class) (same_case : answered_case ≡ case) where
  pub kept_by : (t : List ℕ) (n offset : ℕ) (u : List ℕ) → n ≡ position_or_len (λ b. not (is_canonical_byte answered_class answered_case b)) t → u ≡ take offset t
      → IsIn class u → IsValidText class case (offset == n) u
  kept_by t n offset u at front inside = record {
    inside = inside;
    canonical = λ e.
        let counted : n ≡ position_or_len (λ b. not (is_canonical_byte class case b)) t =
        at ∙ ap (λ k. position_or_len (λ b. not (is_canonical_byte k answered_case b)) t) same_class
        ∙ ap (λ k. position_or_len (λ b. not (is_canonical_byte class k b)) t) same_case in
        let canonical_len : take n t ≡ u = ap (λ i. take i t) (sym (eqb-true offset n e)) ∙ sym front in
        subst (λ v. canonical_in case v ≡ v) canonical_len ((canonical_take class case t n counted true).canonical refl);
  }
