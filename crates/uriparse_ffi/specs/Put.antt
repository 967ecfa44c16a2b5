-- What a call leaves in the caller's buffer, and what it returns.
use Rattle.std.specs.Prelude.{◌≡◌, ◌≤◌, ◌<◌, ℕ, List, ◌++◌, ◌+◌, length, drop, min, Result, Ok, Err}
use Rattle.uriparse_reference.specs.declared.uri_reference.error.BufferError.{BufferError}
use Rattle.uriparse_reference.specs.declared.uri_reference.error.BufferError.TheVariants as errors
use Rattle.uriparse_reference.specs.Reference.{Parts, print}
use Rattle.uriparse_reference.specs.Relate.{relative}
use Rattle.uriparse_text.specs.Starts.{most}
use Rattle.uriparse_ffi.specs.Code.{accepted, in_base, no_room, no_scheme, too_many_segments}

-- The buffer begins with the text and its other bytes are kept; or, if the text is too long, all are. `needed` is the text's length, or the largest
-- number.
pub record IsPut (text old new : List ℕ) (needed code : ℕ) : Type 0 where
  pub fits : length text ≤ length old → (code ≡ accepted) × (needed ≡ length text) × (new ≡ text ++ drop (length text) old)
  pub too_long : length old < length text → (code ≡ no_room) × (needed ≡ min (length text) most) × (new ≡ old)

-- the same of the text of the reference that leads from the base b to t
abbrev pub IsRelativePut : Parts → Parts → List ℕ → List ℕ → ℕ → ℕ → Type 0
IsRelativePut b t old new needed code = IsPut (print (relative b t)) old new needed code

-- the call returns this code, and the buffer is kept
pub record IsRefused (why : ℕ) (old new : List ℕ) (needed code : ℕ) : Type 0 where
  pub reason : code ≡ why
  pub kept : new ≡ old
  pub size : needed ≡ 0

-- ---- words of private functions' clauses

-- the code of a text that was written to a buffer, or was not
abbrev pub written_code : Result ℕ BufferError → ℕ
written_code (Ok n) = accepted
written_code (Err (errors.TooSmall n)) = no_room
written_code (Err errors.RelativeBase) = in_base + no_scheme
written_code (Err errors.TooManySegments) = too_many_segments

-- the length that is reported for it
abbrev pub needed_for : Result ℕ BufferError → ℕ
needed_for (Ok n) = n
needed_for (Err (errors.TooSmall n)) = n
needed_for (Err errors.RelativeBase) = 0
needed_for (Err errors.TooManySegments) = 0
