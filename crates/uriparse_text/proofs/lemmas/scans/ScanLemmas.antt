-- Searches by runs of sixteen bytes.
use Rattle.std.proofs.Common.{◌≡◌, ℕ, ◌+◌, ◌<◌, ◌≤◌, Bool, true, false, List, length, get_or, sym, ap, subst, ◌∙◌, arith, inl, inr}
use Rattle.std.specs.List.{position_or_len}
use Rattle.std.specs.Simd.Lanes.{chunk}
use Rattle.std.proofs.lemmas.Bool.{cases_lt}
use Rattle.std.specs.Prelude.{not}
use Rattle.std.proofs.lemmas.List.Sums.{position_or_len_is, prefix_len-le-length}
use Rattle.std.proofs.lemmas.Simd.{run_in_chunk_le, run_in_chunk_fails, run_in_chunk_stops}

-- no byte before this place passes
pub record NoneBefore (p : ℕ → Bool) (text : List ℕ) (at : ℕ) : Type 0 where
  pub within : at ≤ length text
  pub fail : (k : ℕ) → k < at → p (get_or text k 0) ≡ false

pub one_more : (p : ℕ → Bool) (text : List ℕ) (at : ℕ) → NoneBefore p text at → at < length text → p (get_or text at 0) ≡ false → NoneBefore p text (at + 1)
one_more p text at is more fails = record {
  within = omega arith;
  fail = λ k h. elim (cases_lt k at) [
    | inl below ↦ is.fail k below
    | inr past ↦ let same : k ≡ at = omega arith in ap (λ i. p (get_or text i 0)) same ∙ fails
  ];
}

pub found_here : (p : ℕ → Bool) (text : List ℕ) (at : ℕ) → NoneBefore p text at → p (get_or text at 0) ≡ true → at ≡ position_or_len p text
found_here p text at is passes = sym (position_or_len_is p text at 0 is.within is.fail (λ _. passes))

pub found_nowhere : (p : ℕ → Bool) (text : List ℕ) (at : ℕ) → NoneBefore p text at → length text ≤ at → at ≡ position_or_len p text
found_nowhere p text at is past =
    let within = is.within in
    sym (position_or_len_is p text at 0 is.within is.fail (λ h. absurd (omega arith)))

-- a run of sixteen that begins at or before the place that is reached
pub run_passed : (p : ℕ → Bool) (text : List ℕ) (seen at n : ℕ) → NoneBefore p text seen → at ≤ seen → at + 16 ≤ length text
    → n ≡ position_or_len p (chunk at 16 text) → NoneBefore p text (at + n)
run_passed p text seen at n is before room counted =
    let short : n ≤ 16 = run_in_chunk_le p text at 16 n 0 room counted in
    record {
      within = omega arith;
      fail = λ k h. elim (cases_lt k seen) [
        | inl below ↦ is.fail k below
        | inr past ↦ run_in_chunk_fails p text at 16 n 0 room counted k (omega arith) h
      ];
    }

pub found_in_run : (p : ℕ → Bool) (text : List ℕ) (seen at n : ℕ) → NoneBefore p text seen → at ≤ seen → at + 16 ≤ length text
    → n ≡ position_or_len p (chunk at 16 text) → n < 16 → at + n ≡ position_or_len p text
found_in_run p text seen at n is before room counted found =
    found_here p text (at + n) (run_passed p text seen at n is before room counted) (run_in_chunk_stops p text at 16 n 0 room counted found)

-- the last run
pub found_at_end : (p : ℕ → Bool) (text : List ℕ) (seen at n : ℕ) → NoneBefore p text seen → at ≤ seen → at + 16 ≡ length text
    → n ≡ position_or_len p (chunk at 16 text) → at + n ≡ position_or_len p text
found_at_end p text seen at n is before room counted =
    elim (cases_lt n 16) [
      | inl found ↦ found_in_run p text seen at n is before (omega arith) counted found
      | inr none ↦ found_nowhere p text (at + n) (run_passed p text seen at n is before (omega arith) counted) (omega arith)
    ]

pub run_empty : (p : ℕ → Bool) (text : List ℕ) (at n : ℕ) → NoneBefore p text at → at + 16 ≤ length text
    → n ≡ position_or_len p (chunk at 16 text) → 16 ≤ n → NoneBefore p text (at + 16)
run_empty p text at n is room counted none =
    let short : n ≤ 16 = run_in_chunk_le p text at 16 n 0 room counted in
    let full : n ≡ 16 = omega arith in
    subst (λ m. NoneBefore p text (at + m)) full (run_passed p text at at n is (omega arith) room counted)

pub offset_within : (p : ℕ → Bool) (text : List ℕ) (n : ℕ) → n ≡ position_or_len p text → n ≤ length text
offset_within p text n is = omega (arith, is, prefix_len-le-length (λ b. not (p b)) text)
