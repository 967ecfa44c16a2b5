-- Ports: RFC 3986, section 3.2.3.
use Rattle.std.specs.Prelude.{◌≡◌, ℕ, ◌≤◌, ◌<◌, Bool, true, false, not, nat_le, if◌then◌else◌, List, [], ◌∷◌, ◌++◌, Option, Some, None, Result, decimal}
use Rattle.std.specs.Char.{is_digit}
use Rattle.std.specs.List.{list_all}
use Rattle.std.specs.Str.Parse.{digits_value}
use Rattle.uriparse_text.specs.Cuts.{up_to, from_first}
use Rattle.uriparse_text.specs.Readings.{unless_fault}
use Rattle.uriparse_authority.specs.declared.authority.error.PortError.{PortError}
use Rattle.uriparse_authority.specs.declared.authority.error.PortError.TheVariants.{InvalidCharacter, Overflow}

-- the largest port
abbrev pub largest : ℕ
largest = 65535

abbrev pub IsPort : ℕ → Type 0
IsPort n = n ≤ largest

-- port = *DIGIT
abbrev pub are_digits : List ℕ → Bool
are_digits t = list_all (λ b. is_digit b 10) t

-- no digits are no port, and others the number that they write
abbrev pub value_of : List ℕ → Option ℕ
value_of [] = None
value_of (d ∷ ds) = Some (digits_value 10 (d ∷ ds))

-- the text stands for the port, or for none
pub record Spells (t : List ℕ) (port : Option ℕ) : Type 0 where
  pub digits : are_digits t ≡ true
  pub in_range : IsPort (digits_value 10 t)
  pub value : port ≡ value_of t

-- the text of a port
abbrev pub text : ℕ → List ℕ
text n = decimal n

-- ---- reading

-- a byte that is no digit
abbrev pub is_other : ℕ → Bool
is_other b = not (is_digit b 10)

-- a byte that is no digit is a fault, if there is one
abbrev pub other_fault : List ℕ → Option PortError
other_fault [] = None
other_fault (_ ∷ _) = Some InvalidCharacter

-- Digits that write a port, and then a byte that is no digit.
pub record HasOther (t : List ℕ) : Type 0 where
  pub front : List ℕ
  pub byte : ℕ
  pub left : List ℕ
  pub whole : t ≡ front ++ byte ∷ left
  pub digits : are_digits front ≡ true
  pub in_range : IsPort (digits_value 10 front)
  pub other : is_digit byte 10 ≡ false

-- Digits that write a port, and then a digit with which they no longer do.
pub record Passes (t : List ℕ) : Type 0 where
  pub front : List ℕ
  pub byte : ℕ
  pub left : List ℕ
  pub whole : t ≡ front ++ byte ∷ left
  pub digits : are_digits front ≡ true
  pub in_range : IsPort (digits_value 10 front)
  pub digit : is_digit byte 10 ≡ true
  pub beyond : largest < digits_value 10 (front ++ byte ∷ [])

-- The leftmost fault of the text. Cut it at the first byte that is no digit: the fault is that byte's, unless the
-- digits before it write too large a number. One of those digits is then the first to do so, since more digits never
-- write less.
abbrev pub fault : List ℕ → Option PortError
fault t =
    if nat_le (digits_value 10 (up_to is_other t)) largest
    then other_fault (from_first is_other t)
    else Some Overflow

abbrev pub reading : List ℕ → Result (Option ℕ) PortError
reading t = unless_fault (fault t) (value_of t)
