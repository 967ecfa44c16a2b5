-- Escapes in canonical spelling: RFC 3986, sections 6.2.2.1 and 6.2.2.2. Words of private functions' clauses alone.
use Rattle.std.specs.Prelude.{◌≡◌, ℕ, ◌+◌, ◌-◌, ◌<◌, ◌≤◌, Bool, true, false, not, ◌&&◌, ◌==◌, List, [], ◌∷◌, length, drop, slice_index, if◌then◌else◌}
use Rattle.std.specs.Int.{bit_at}
use Rattle.std.specs.Char.{to_ascii_uppercase}
use Rattle.uriparse_text.specs.declared.internal.token.Case.TheVariants.{Kept}
use Rattle.uriparse_text.specs.Bytes.{is_unreserved}
use Rattle.uriparse_text.specs.Canonical.{canonical_in, escaped_byte}
use Rattle.uriparse_text.specs.Tokens.{is_escape}

-- an escape with these digits is canonical: they are in upper case, and it stands for no unreserved byte
abbrev pub is_canonical_escape : ℕ → ℕ → Bool
is_canonical_escape high low =
    to_ascii_uppercase high == high && (to_ascii_uppercase low == low && not (is_unreserved (escaped_byte high low)))

-- the text begins with an escape that isn't canonical
abbrev pub begins_changed : List ℕ → Bool
begins_changed [] = false
begins_changed (b ∷ after) = is_escape b after && not (is_canonical_escape (slice_index after 0) (slice_index after 1))

-- the text begins with an escape of an unreserved byte
abbrev pub begins_shrunk : List ℕ → Bool
begins_shrunk [] = false
begins_shrunk (b ∷ after) = is_escape b after && is_unreserved (escaped_byte (slice_index after 0) (slice_index after 1))

-- how many places of the text such an escape begins at
unfoldable pub shrunk_count : List ℕ → ℕ
shrunk_count [] = 0
shrunk_count (b ∷ after) = (if begins_shrunk (b ∷ after) then 1 else 0) + shrunk_count after

-- no escape that isn't canonical begins before this place
abbrev pub NoneChanged : List ℕ → ℕ → Type 0
NoneChanged text at = (k : ℕ) → k < at → begins_changed (drop k text) ≡ false

-- each that begins before sixteen places from `at` on are passed has its mark: bit k is the mark of the place `at + k`
abbrev pub AreMarked : List ℕ → ℕ → ℕ → Type 0
AreMarked text at marks = (k : ℕ) → k < at + 16 → begins_changed (drop k text) ≡ true → (at ≤ k) × (bit_at marks (k - at) ≡ 1)

-- some digits of escapes were made large: the text is as long as before, and its canonical spelling is the same
pub record Raises (old new : List ℕ) : Type 0 where
  pub size : length new ≡ length old
  pub spelled : canonical_in Kept new ≡ canonical_in Kept old
