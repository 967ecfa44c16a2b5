-- Masks that mark bytes of a text, a bit each.
use Rattle.std.specs.Prelude.{◌≡◌, ℕ, ◌+◌, ◌<◌, ◌≤◌, Bool, if◌then◌else◌, List, slice_index}
use Rattle.std.specs.Int.{bit_at}

-- the lowest bit that is set
abbrev pub IsLowest : ℕ → ℕ → Type 0
IsLowest m k = (bit_at m k ≡ 1) × ((j : ℕ) → j < k → bit_at m j ≡ 0)

-- of this many bytes from a place on, those that pass the test have their bit set; no other bit is
abbrev pub AreMarks : (ℕ → Bool) → List ℕ → ℕ → ℕ → ℕ → Type 0
AreMarks p text at n marks =
    ((k : ℕ) → k < n → bit_at marks k ≡ (if p (slice_index text (at + k)) then 1 else 0)) × ((k : ℕ) → n ≤ k → bit_at marks k ≡ 0)
