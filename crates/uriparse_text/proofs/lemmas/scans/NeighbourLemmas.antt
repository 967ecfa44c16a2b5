-- Bytes of a text next to each other, by their marks.
use Rattle.std.proofs.Common.{◌≡◌, ℕ, ◌+◌, ◌<◌, ◌≤◌, Bool, true, false, ◌&&◌, if◌then◌else◌, min, List, get_or, refl, sym, ap, ◌∙◌, arith, bit_and}
use Rattle.std.specs.Int.{bit_at}
use Rattle.std.proofs.lemmas.Nat.Bits.{bit_at_and}
use Rattle.uriparse_text.specs.Marks.{AreMarks}

-- a bit that says whether something is so
pub unset_bit : (v : Bool) (bit : ℕ) → bit ≡ (if v then 1 else 0) → bit ≡ 0 → v ≡ false
unset_bit true bit e h = absurd (omega (arith, e, h))
unset_bit false bit e h = refl

pub set_bit : (v : Bool) (bit : ℕ) → bit ≡ (if v then 1 else 0) → bit ≡ 1 → v ≡ true
set_bit true bit e h = refl
set_bit false bit e h = absurd (omega (arith, e, h))

-- a byte from i on passes p while the one as far from j on passes q: where both have their mark
pub pair_marked : (p q : ℕ → Bool) (t : List ℕ) (i j n a b : ℕ) → AreMarks p t i n a → AreMarks q t j n b
    → (k : ℕ) → k < n → bit_at (bit_and a b) k ≡ (if p (get_or t (i + k) 0) && q (get_or t (j + k) 0) then 1 else 0)
pair_marked p q t i j n a b are those k h =
    bit_at_and a b k ∙ by_tests (p (get_or t (i + k) 0)) (q (get_or t (j + k) 0)) (bit_at a k) (bit_at b k) (are.0 k h) (those.0 k h)
  where
    by_tests : (v w : Bool) (x y : ℕ) → x ≡ (if v then 1 else 0) → y ≡ (if w then 1 else 0) → min x y ≡ (if v && w then 1 else 0)
    by_tests false w x y e f = omega (arith, e)
    by_tests true false x y e f = omega (arith, e, f)
    by_tests true true x y e f = omega (arith, e, f)

-- no pair where the first has no mark
pub pair_unmarked : (p q : ℕ → Bool) (t : List ℕ) (i j n a : ℕ) → AreMarks p t i n a → (k : ℕ) → k < n → bit_at a k ≡ 0
    → ◌≡◌ {A = ℕ} 0 (if p (get_or t (i + k) 0) && q (get_or t (j + k) 0) then 1 else 0)
pair_unmarked p q t i j n a are k h unset =
    ap (λ v. if v && q (get_or t (j + k) 0) then 1 else 0) (sym (unset_bit (p (get_or t (i + k) 0)) (bit_at a k) (are.0 k h) unset))

-- nor past either's marks
pub pair_past : (p : ℕ → Bool) (t : List ℕ) (i n a b : ℕ) → AreMarks p t i n a → (k : ℕ) → n ≤ k → bit_at (bit_and a b) k ≡ 0
pair_past p t i n a b are k h = omega (arith, bit_at_and a b k, are.1 k h)
