-- The marks of `%` before two bytes that share a kind.
use Rattle.std.proofs.Common.{◌≡◌, ℕ, ◌+◌, ◌%◌, ◌^◌, ◌<◌, ◌≤◌, Bool, true, false, cond, eqb, not, ◌&&◌, List, ◌∷◌, map, length, get_or, drop, bit_and, min, replicate, refl, sym, ap, ◌∙◌, arith, w8}
use Rattle.std.specs.Prelude.{◌==◌}
use Rattle.std.specs.Int.{bit_at}
use Rattle.std.specs.Simd.Lanes.{zip2, mask_l, top, chunk}
use Rattle.std.proofs.lemmas.List.{drop_more, get_or-map, get_or_past, length-map}
use Rattle.std.proofs.lemmas.Nat.Bits.{bit_at_and}
use Rattle.std.proofs.lemmas.Simd.{bitmask_splat, length-chunk, get_or-chunk, length-zip2, get_or-zip2, bit_mask_l}
use Rattle.uriparse_text.specs.Bytes.{percent}

-- three bytes of a text, and what follows them
pub three : (k : ℕ) (t : List ℕ) → k + 2 < length t → drop k t ≡ get_or t k 0 ∷ get_or t (k + 1) 0 ∷ get_or t (k + 2) 0 ∷ drop (k + 3) t
three k t h =
    let next : k + 1 + 1 ≡ k + 2 = omega arith in
    let last : k + 2 + 1 ≡ k + 3 = omega arith in
    drop_more t k 0 (omega arith)
    ∙ ap (λ u. get_or t k 0 ∷ u) (drop_more t (k + 1) 0 (omega arith)
    ∙ ap (λ i. get_or t (k + 1) 0 ∷ drop i t) next
    ∙ ap (λ u. get_or t (k + 1) 0 ∷ u) (drop_more t (k + 2) 0 h ∙ ap (λ i. get_or t (k + 2) 0 ∷ drop i t) last))

marked : (p : ℕ → Bool) (lanes : List ℕ) (k : ℕ) → k < length lanes → bit_at (mask_l (map p lanes)) k ≡ cond (p (get_or lanes k 0)) 1 0
marked p lanes k h = bit_mask_l (map p lanes) k ∙ ap (λ v. cond v 1 0) (get_or-map p lanes k 0 false h)

least : (v w : Bool) → min (cond v 1 0) (cond w 1 0) ≡ cond (v && w) 1 0
least true true = refl
least true false = refl
least false true = refl
least false false = refl

module _ (first second : ℕ → ℕ) (text : List ℕ) (at : ℕ) (room : at + 18 ≤ length text) (firsts seconds : List ℕ)
    (f : firsts ≡ map first (chunk (at + 1) 16 text)) (s : seconds ≡ map second (chunk (at + 2) 16 text))
    (signs kinds : ℕ) (e : signs ≡ mask_l (map (λ b. b == percent) (chunk at 16 text)))
    (g : kinds ≡ mask_l (map (top 7) (zip2 (λ a b. cond (not (eqb a b)) 255 0) (zip2 bit_and firsts seconds) (replicate 16 0))) % 2 ^ 64) where
  long : (i : ℕ) → i + 16 ≤ length text → length (chunk i 16 text) ≡ 16
  long i fits = length-chunk i 16 text fits

  long_firsts : length firsts ≡ 16
  long_firsts = ap length f ∙ length-map (chunk (at + 1) 16 text) first ∙ long (at + 1) (omega arith)

  long_seconds : length seconds ≡ 16
  long_seconds = ap length s ∙ length-map (chunk (at + 2) 16 text) second ∙ long (at + 2) (omega arith)

  long_both : length (zip2 bit_and firsts seconds) ≡ 16
  long_both = length-zip2 bit_and firsts seconds (long_firsts ∙ sym long_seconds) ∙ long_firsts

  sign_at : (k : ℕ) → k < 16 → bit_at signs k ≡ cond (get_or text (at + k) 0 == percent) 1 0
  sign_at k h =
      ap (λ m. bit_at m k) e ∙ marked (λ b. b == percent) (chunk at 16 text) k (omega (arith, long at (omega arith)))
      ∙ ap (λ b. cond (b == percent) 1 0) (get_or-chunk at 16 text k 0 h)

  kinds_of : (p : ℕ → ℕ) (i : ℕ) (l : List ℕ) (k : ℕ) → k < 16 → i + 16 ≤ length text → l ≡ map p (chunk i 16 text) → get_or l k 0 ≡ p (get_or text (i + k) 0)
  kinds_of p i l k h fits is =
      ap (λ u. get_or u k 0) is ∙ get_or-map p (chunk i 16 text) k 0 0 (omega (arith, long i fits)) ∙ ap p (get_or-chunk i 16 text k 0 h)

  kind_at : (k : ℕ) → k < 16 → bit_at kinds k ≡ cond (not (eqb (bit_and (first (get_or text (at + 1 + k) 0)) (second (get_or text (at + 2 + k) 0))) 0)) 1 0
  kind_at k h =
      ap (λ m. bit_at m k) (g ∙ bitmask_splat w8 (λ a b. not (eqb a b)) (zip2 bit_and firsts seconds) 16 0 long_both (omega arith))
      ∙ marked (λ x. not (eqb x 0)) (zip2 bit_and firsts seconds) k (omega (arith, long_both))
      ∙ ap (λ x. cond (not (eqb x 0)) 1 0)
      (get_or-zip2 bit_and firsts seconds k 0 0 0 (omega (arith, long_firsts)) (omega (arith, long_seconds))
      ∙ ap (λ u. bit_and u (get_or seconds k 0)) (kinds_of first (at + 1) firsts k h (omega arith) f)
      ∙ ap (bit_and (first (get_or text (at + 1 + k) 0))) (kinds_of second (at + 2) seconds k h (omega arith) s))

  pub both_at : (k : ℕ) → k < 16 → bit_at (bit_and signs kinds) k ≡
      cond (get_or text (at + k) 0 == percent && not (eqb (bit_and (first (get_or text (at + 1 + k) 0)) (second (get_or text (at + 2 + k) 0))) 0)) 1 0
  both_at k h =
      bit_at_and signs kinds k ∙ ap (λ n. min n (bit_at kinds k)) (sign_at k h) ∙ ap (min (cond (get_or text (at + k) 0 == percent) 1 0)) (kind_at k h)
      ∙ least (get_or text (at + k) 0 == percent) (not (eqb (bit_and (first (get_or text (at + 1 + k) 0)) (second (get_or text (at + 2 + k) 0))) 0))

  pub both_past : (k : ℕ) → 16 ≤ k → bit_at (bit_and signs kinds) k ≡ 0
  both_past k h =
      let none : bit_at signs k ≡ 0 = ap (λ m. bit_at m k) e ∙ bit_mask_l (map (λ b. b == percent) (chunk at 16 text)) k
      ∙ ap (λ v. cond v 1 0) (get_or_past (map (λ b. b == percent) (chunk at 16 text)) k false
      (omega (arith, length-map (chunk at 16 text) (λ b. b == percent), long at (omega arith)))) in
      omega (arith, none, bit_at_and signs kinds k)
