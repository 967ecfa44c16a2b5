-- Which texts are in a class, and the leftmost fault of one that isn't.
use Rattle.std.specs.Prelude.{◌≡◌, ℕ, ◌+◌, ◌<◌, ◌≤◌, Bool, true, not, ◌&&◌, ◌||◌, ◌==◌, List, [], ◌∷◌, ◌++◌, length, drop, slice_index, false, Option}
use Rattle.std.specs.Int.{bit_at}
use Rattle.std.specs.Option.{option_map}
use Rattle.std.specs.List.{flat_map, list_all, find}
use Rattle.uriparse_text.specs.declared.internal.token.Token.{Token}
use Rattle.uriparse_text.specs.declared.internal.token.Token.TheVariants.{Byte, Escape}
use Rattle.uriparse_text.specs.declared.internal.class.Class.{Class}
use Rattle.uriparse_text.specs.Bytes.{percent, is_hex}
use Rattle.uriparse_text.specs.Classes.{is_plain}
use Rattle.uriparse_text.specs.Tokens.{tokens, spell, is_escape}

-- the class has the token
abbrev pub allows : Class → Token → Bool
allows class (Byte b) = is_plain class b
allows class (Escape high low) = is_hex high && is_hex low

-- all tokens of the text are in the class
abbrev pub is_in : Class → List ℕ → Bool
is_in class text = list_all (allows class) (tokens text)

abbrev pub IsIn : Class → List ℕ → Type 0
IsIn class text = is_in class text ≡ true

-- the byte at which a token stands
abbrev pub first_byte : Token → ℕ
first_byte (Byte b) = b
first_byte (Escape high low) = percent

-- the first byte of the first token that is not in the class: the leftmost fault
unfoldable pub fault : Class → List ℕ → Option ℕ
fault class text = option_map first_byte (find (λ t. not (allows class t)) (tokens text))

-- a byte that stands in no token of the class
pub record EndsClass (class : Class) (b : ℕ) : Type 0 where
  pub outside : is_plain class b ≡ false
  pub no_sign : (b == percent) ≡ false
  pub no_digit : is_hex b ≡ false

-- ---- byte by byte, for a walk that passes over no digit: words of the clauses of private functions alone

-- a byte of the class or an escape begins the text, or it is empty
abbrev pub begins_fine : Class → List ℕ → Bool
begins_fine class [] = true
begins_fine class (b ∷ after) = is_plain class b || is_escape b after

-- so does each rest of the text from one place up to another
abbrev pub AllFine : Class → List ℕ → ℕ → ℕ → Type 0
AllFine class text from to = (k : ℕ) → from ≤ k → k < to → begins_fine class (drop k text) ≡ true

-- of this many bytes from a place on, those with no mark are fine, and those with one aren't in the class
abbrev pub AreInDoubt : Class → List ℕ → ℕ → ℕ → ℕ → Type 0
AreInDoubt class text at n marks =
    ((k : ℕ) → k < n → bit_at marks k ≡ 0 → begins_fine class (drop (at + k) text) ≡ true)
    × ((k : ℕ) → bit_at marks k ≡ 1 → (k < n) × (is_plain class (slice_index text (at + k)) ≡ false))

-- a byte from this place on at which no token of the class begins, where one begins at each before it
pub record IsFaultFrom (class : Class) (text : List ℕ) (from offset : ℕ) : Type 0 where
  pub within : offset < length text
  pub fine : AllFine class text from offset
  pub faulty : begins_fine class (drop offset text) ≡ false

-- the leftmost place of the text at which no token of the class begins, or the length
pub record IsFaultOffset (class : Class) (text : List ℕ) (offset : ℕ) : Type 0 where
  pub within : offset ≤ length text
  pub fine : AllFine class text 0 offset
  pub faulty : offset < length text → begins_fine class (drop offset text) ≡ false

-- ---- the same in the standard's words

-- the text is a concatenation of tokens of the class
pub record IsOfClass (class : Class) (text : List ℕ) : Type 0 where
  pub ts : List Token
  pub whole : text ≡ flat_map spell ts
  pub each : list_all (allows class) ts ≡ true

-- no token of the class begins the text
abbrev pub BeginsWithNone : Class → List ℕ → Type 0
BeginsWithNone class text =
    (t : Token) (rest : List ℕ) → allows class t ≡ true → text ≡ spell t ++ rest → ⊥

-- the least place where no token of the class begins, with what precedes and follows it
pub record HasFaultAt (class : Class) (text : List ℕ) (byte : ℕ) : Type 0 where
  pub before : List ℕ
  pub after : List ℕ
  pub whole : text ≡ before ++ byte ∷ after
  pub fine : IsOfClass class before
  pub here : BeginsWithNone class (byte ∷ after)
