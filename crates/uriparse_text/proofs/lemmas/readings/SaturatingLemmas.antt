-- Sums that stop at a largest number m.
use Rattle.std.proofs.Common.{◌≡◌, ◌⊎◌, ℕ, ◌+◌, ◌<◌, ◌≤◌, min, inl, inr, ◌∙◌, arith}
use Rattle.std.proofs.Math.Nat.{min-eq_left, min-eq_right}
use Rattle.std.proofs.lemmas.Bool.{cases_lt}

-- what is n at most, or m, and what is k at most, or m, make n + k at most, or m
pub most_both : (m n r k l s : ℕ) → (n ≤ r) ⊎ (r ≡ m) → (k ≤ l) ⊎ (l ≡ m) → s ≡ min (r + l) m → (n + k ≤ s) ⊎ (s ≡ m)
most_both m n r k l s first second is =
    elim (cases_lt (r + l) m) [
      | inl under ↦ by_most under first second (is ∙ min-eq_left (omega arith))
      | inr over ↦ inr (is ∙ min-eq_right over)
    ]
  where
    by_most : r + l < m → (n ≤ r) ⊎ (r ≡ m) → (k ≤ l) ⊎ (l ≡ m) → s ≡ r + l → (n + k ≤ s) ⊎ (s ≡ m)
    by_most under (inl within) (inl fits) sum = inl (omega arith)
    by_most under (inl within) (inr full) sum = inr (omega arith)
    by_most under (inr full) fits sum = inr (omega arith)

pub most_more : (m n r k s : ℕ) → (n ≤ r) ⊎ (r ≡ m) → s ≡ min (r + k) m → (n + k ≤ s) ⊎ (s ≡ m)
most_more m n r k s most is = most_both m n r k k s most (inl (omega arith)) is

pub most_of : (m n k r : ℕ) → n ≤ k → (k ≤ r) ⊎ (r ≡ m) → (n ≤ r) ⊎ (r ≡ m)
most_of m n k r less (inl within) = inl (omega arith)
most_of m n k r less (inr full) = inr full
