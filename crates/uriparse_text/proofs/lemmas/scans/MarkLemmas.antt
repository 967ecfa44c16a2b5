-- Marks of a text's bytes, from those of its lanes.
use Rattle.std.proofs.Common.{◌≡◌, ℕ, ◌+◌, ◌-◌, ◌^◌, ◌<◌, ◌≤◌, Bool, true, false, cond, List, ◌++◌, map, length, get_or, drop}
use Rattle.std.proofs.Common.{refl, sym, ap, ◌∙◌, arith, inl, inr, length-append, length-drop}
use Rattle.std.specs.Int.{bit_at}
use Rattle.std.specs.List.{position_or_len}
use Rattle.std.specs.Simd.Lanes.{mask_l, chunk}
use Rattle.std.proofs.lemmas.Bool.{cases_lt}
use Rattle.std.proofs.lemmas.List.{get_or-map, get_or_past, length-map, get_or_append_left, get_or-append_right, get_or-drop}
use Rattle.std.proofs.lemmas.List.Sums.{position_or_len_is}
use Rattle.std.proofs.Math.Nat.{pow-le-pow_right}
use Rattle.std.proofs.lemmas.Nat.Bits.{bit_at-zero}
use Rattle.std.proofs.lemmas.Simd.{bit_mask_l, mask_l-lt, length-chunk, get_or-chunk}
use Rattle.uriparse_text.specs.Marks.{AreMarks}

-- a mask without its lowest bit has bits above that alone
pub above_lowest : (left next k : ℕ) → ((j : ℕ) → j < k → bit_at left j ≡ 0) → ((j : ℕ) → bit_at next j ≡ 1 → bit_at left j ≡ 1) → bit_at next k ≡ 0
    → (j : ℕ) → bit_at next j ≡ 1 → k < j
above_lowest left next k below no_more cleared j e = elim (cases_lt k j) [
  | inl past ↦ past
  | inr upto ↦ elim (cases_lt j k) [
    | inl before ↦ absurd (omega (arith, below j before, no_more j e))
    | inr from ↦ let same : j ≡ k = omega arith in absurd (omega (arith, cleared, e, ap (bit_at next) same))
  ]
]

pub is_unset : (v : Bool) → ◌≡◌ {A = ℕ} (cond v 1 0) 0 → v ≡ false
is_unset true h = absurd (omega arith)
is_unset false h = refl

module _ (p : ℕ → Bool) where
  lane_bit : (lanes : List ℕ) (k : ℕ) → k < length lanes → bit_at (mask_l (map p lanes)) k ≡ cond (p (get_or lanes k 0)) 1 0
  lane_bit lanes k h = bit_mask_l (map p lanes) k ∙ ap (λ v. cond v 1 0) (get_or-map p lanes k 0 false h)

  lane_past : (lanes : List ℕ) (k : ℕ) → length lanes ≤ k → bit_at (mask_l (map p lanes)) k ≡ 0
  lane_past lanes k h =
      bit_mask_l (map p lanes) k ∙ ap (λ v. cond v 1 0) (get_or_past (map p lanes) k false (omega (arith, length-map lanes p)))

  pub marks_small : (lanes : List ℕ) (m : ℕ) → m ≡ mask_l (map p lanes) → length lanes ≡ 16 → m < 65536
  marks_small lanes m e long =
      let long : length (map p lanes) ≡ 16 = length-map lanes p ∙ long in
      omega (arith, e, mask_l-lt (map p lanes), ap (λ n. 2 ^ n) long)

  module _ (text : List ℕ) where
    -- the front's bits and the back's, in one mask
    pub ends_are_marks : (w m marks : ℕ) → w ≤ length text → length text ≤ w + w
        → ((k : ℕ) → k < w + w → bit_at m k ≡ cond (p (get_or (chunk 0 w text ++ chunk (length text - w) w text) k 0)) 1 0)
        → ((k : ℕ) → w + w ≤ k → bit_at m k ≡ 0)
        → ((k : ℕ) → k < w → bit_at marks k ≡ bit_at m k)
        → ((k : ℕ) → w ≤ k → bit_at marks k ≡ bit_at m (w + w + w - length text + (k - w)))
        → AreMarks p text 0 (length text) marks
    ends_are_marks w m marks least most bits past low high = (inside, outside)
      where
        front : List ℕ
        front = chunk 0 w text

        back : List ℕ
        back = chunk (length text - w) w text

        inside : (k : ℕ) → k < length text → bit_at marks k ≡ cond (p (get_or text (0 + k) 0)) 1 0
        inside k h = elim (cases_lt k w) [
          | inl in_front ↦ low k in_front ∙ bits k (omega arith)
              ∙ ap (λ b. cond (p b) 1 0) (get_or_append_left front back 0 k (omega (arith, length-chunk 0 w text (omega arith)))
              ∙ get_or-chunk 0 w text k 0 in_front)
          | inr in_back ↦ high k in_back ∙ bits (w + w + w - length text + (k - w)) (omega arith)
              ∙ ap (λ b. cond (p b) 1 0)
              (get_or-append_right front back w (w + w + w - length text + (k - w)) 0 (length-chunk 0 w text (omega arith)) (omega arith)
              ∙ get_or-chunk (length text - w) w text (w + w + w - length text + (k - w) - w) 0 (omega arith)
              ∙ (let offset : length text - w + (w + w + w - length text + (k - w) - w) ≡ 0 + k = omega arith in ap (λ i. get_or text i 0) offset))
        ]

        outside : (k : ℕ) → length text ≤ k → bit_at marks k ≡ 0
        outside k h = high k (omega arith) ∙ past (w + w + w - length text + (k - w)) (omega arith)

    pub run_marks : (at from m marks : ℕ) → at ≤ from → from ≤ at + 16 → at + 16 ≤ length text → m ≡ mask_l (map p (chunk at 16 text))
        → ((k : ℕ) → bit_at marks k ≡ bit_at m (from - at + k)) → AreMarks p text from (at + 16 - from) marks
    run_marks at from m marks least most room e bits = (inside, outside)
      where
        long : length (chunk at 16 text) ≡ 16
        long = length-chunk at 16 text room

        inside : (k : ℕ) → k < at + 16 - from → bit_at marks k ≡ cond (p (get_or text (from + k) 0)) 1 0
        inside k h =
            let offset : at + (from - at + k) ≡ from + k = omega arith in
            bits k ∙ ap (λ n. bit_at n (from - at + k)) e ∙ lane_bit (chunk at 16 text) (from - at + k) (omega (arith, long))
            ∙ ap (λ b. cond (p b) 1 0) (get_or-chunk at 16 text (from - at + k) 0 (omega arith) ∙ ap (λ i. get_or text i 0) offset)

        outside : (k : ℕ) → at + 16 - from ≤ k → bit_at marks k ≡ 0
        outside k h =
            bits k ∙ ap (λ n. bit_at n (from - at + k)) e ∙ lane_past (chunk at 16 text) (from - at + k) (omega (arith, long))

    ends_long : (w : ℕ) → w ≤ length text → length (chunk 0 w text ++ chunk (length text - w) w text) ≡ w + w
    ends_long w least =
        length-append (chunk 0 w text) (chunk (length text - w) w text)
        ∙ omega (arith, length-chunk 0 w text (omega arith), length-chunk (length text - w) w text (omega arith))

    pub ends_small : (m : ℕ) → 8 ≤ length text → m ≡ mask_l (map p (chunk 0 8 text ++ chunk (length text - 8) 8 text)) → m < 65536
    ends_small m least e = marks_small (chunk 0 8 text ++ chunk (length text - 8) 8 text) m e (ends_long 8 least)

    pub joined_are_marks : (m marks : ℕ) → 8 ≤ length text → length text ≤ 16 → m ≡ mask_l (map p (chunk 0 8 text ++ chunk (length text - 8) 8 text))
        → ((k : ℕ) → k < 8 → bit_at marks k ≡ bit_at m k) → ((k : ℕ) → 8 ≤ k → bit_at marks k ≡ bit_at m (24 - length text + (k - 8)))
        → AreMarks p text 0 (length text) marks
    joined_are_marks m marks least most e low high =
        let ends = chunk 0 8 text ++ chunk (length text - 8) 8 text in
        let long : length ends ≡ 16 = ends_long 8 least in
        ends_are_marks 8 m marks least most (λ k h. ap (λ n. bit_at n k) e ∙ lane_bit ends k (omega (arith, long)))
        (λ k h. ap (λ n. bit_at n k) e ∙ lane_past ends k (omega (arith, long))) low high

  module _ (text : List ℕ) (at : ℕ) where
    pub marks_bound : length text ≤ at + 16 → mask_l (map p (drop at text)) < 65536
    marks_bound h =
        let few : length (map p (drop at text)) ≤ 16 = omega (arith, length-map (drop at text) p, length-drop at text) in
        let raised : 2 ^ length (map p (drop at text)) ≤ 2 ^ 16 = pow-le-pow_right (omega arith) few in
        omega (arith, mask_l-lt (map p (drop at text)))

    pub marks_from : (m : ℕ) → at ≤ length text → m ≡ mask_l (map p (drop at text)) → AreMarks p text at (length text - at) m
    marks_from m h e = (
      λ k below. ap (λ n. bit_at n k) e ∙ lane_bit (drop at text) k (omega (arith, length-drop at text))
          ∙ ap (λ b. cond (p b) 1 0) (get_or-drop at text k 0),
      λ k past. ap (λ n. bit_at n k) e ∙ lane_past (drop at text) k (omega (arith, length-drop at text)),
    )

  is_set : (v : Bool) → ◌≡◌ {A = ℕ} (cond v 1 0) 1 → v ≡ true
  is_set true h = refl
  is_set false h = absurd (omega arith)

  -- a byte with a mark passes
  pub marked : (text : List ℕ) (at n m : ℕ) → AreMarks p text at n m → (k : ℕ) → bit_at m k ≡ 1 → (k < n) × (p (get_or text (at + k) 0) ≡ true)
  marked text at n m are k set = elim (cases_lt k n) [
    | inl h ↦ (h, is_set (p (get_or text (at + k) 0)) (sym (are.0 k h) ∙ set))
    | inr h ↦ absurd (omega (arith, are.1 k h, set))
  ]

  -- a byte without one doesn't
  pub unmarked : (text : List ℕ) (at n m : ℕ) → AreMarks p text at n m → (k : ℕ) → k < n → bit_at m k ≡ 0 → p (get_or text (at + k) 0) ≡ false
  unmarked text at n m are k h unset = is_unset (p (get_or text (at + k) 0)) (sym (are.0 k h) ∙ unset)

  unmarked_front : (text : List ℕ) (m : ℕ) → AreMarks p text 0 (length text) m → (k : ℕ) → k < length text → bit_at m k ≡ 0 → p (get_or text k 0) ≡ false
  unmarked_front text m are k h unset =
      let offset : k ≡ 0 + k = omega arith in
      ap (λ i. p (get_or text i 0)) offset ∙ unmarked text 0 (length text) m are k h unset

  -- the lowest mark of a text's bytes is that of the first that passes
  pub first_marked : (text : List ℕ) (m : ℕ) → AreMarks p text 0 (length text) m → (k : ℕ) → bit_at m k ≡ 1 → ((j : ℕ) → j < k → bit_at m j ≡ 0)
      → k ≡ position_or_len p text
  first_marked text m are k set below =
      let w = marked text 0 (length text) m are k set in
      let within = w.0 in
      let offset : k ≡ 0 + k = omega arith in
      sym (position_or_len_is p text k 0 (omega arith) (λ j h. unmarked_front text m are j (omega arith) (below j h))
      (λ _. ap (λ i. p (get_or text i 0)) offset ∙ w.1))

  -- and if there is none, no byte passes
  pub none_marked : (text : List ℕ) (m : ℕ) → AreMarks p text 0 (length text) m → m ≡ 0 → length text ≡ position_or_len p text
  none_marked text m are none =
      sym (position_or_len_is p text (length text) 0 (omega arith)
      (λ j h. unmarked_front text m are j h (ap (λ x. bit_at x j) none ∙ bit_at-zero j)) (λ h. absurd (omega arith)))
