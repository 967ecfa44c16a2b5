-- A text that is written to the start of a buffer of the caller.
use Rattle.std.specs.Prelude.{◌≡◌, ℕ, ◌<◌, ◌≤◌, ◌^◌, ◌-◌, List, ◌++◌, length, take, drop, min, Result, Ok, Err}
use Rattle.uriparse_text.specs.declared.internal.forward_buffer.TooSmall.{TooSmall}

-- the largest length
abbrev pub most : ℕ
most = 2 ^ 64 - 1

-- The buffer begins with the text, whose length is returned, and what follows it is unchanged. If there is no room for the text, the buffer is
-- unchanged, and the error is made of the text's length, or of the largest one.
abbrev pub WritesOr : {E : Type 0} → (ℕ → E) → List ℕ → Result ℕ E → List ℕ → List ℕ → Type 0
WritesOr small t (Ok n) old new = (n ≡ length t) × (new ≡ t ++ drop (length t) old)
WritesOr small t (Err e) old new = (e ≡ small (min (length t) most)) × ((length old < length t) × (new ≡ old))

abbrev pub too_small : ℕ → TooSmall
too_small n = record { needed = n }

abbrev pub Writes : List ℕ → Result ℕ TooSmall → List ℕ → List ℕ → Type 0
Writes t result old new = WritesOr too_small t result old new

-- ---- words of private functions' clauses alone

-- The buffer starts with the text, if it has room for it. `len` is the text's length, or the largest number.
pub record StartsWith (buffer : List ℕ) (len : ℕ) (t : List ℕ) : Type 0 where
  pub size : len ≡ min (length t) most
  pub fits : length t ≤ length buffer → take (length t) buffer ≡ t

-- these bytes are put behind any text that the buffer starts with
abbrev pub Appends : List ℕ → List ℕ → ℕ → List ℕ → ℕ → Type 0
Appends bytes old len new result = (t : List ℕ) → StartsWith old len t → StartsWith new result (t ++ bytes)

-- what the buffer has behind the text stays as it was: the text had `len` bytes, and has `result` now
pub record LeavesRest (old : List ℕ) (len : ℕ) (new : List ℕ) (result : ℕ) : Type 0 where
  pub longer : len ≤ result
  pub same : drop result new ≡ drop result old
