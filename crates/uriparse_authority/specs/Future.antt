-- Addresses of later versions: RFC 3986, section 3.2.2.
use Rattle.std.specs.Prelude.{◌≡◌, ℕ, Bool, true, false, not, ◌==◌, ◌&&◌, ◌||◌, List, [], ◌∷◌, ◌++◌, Option, Some, None, Result}
use Rattle.std.specs.Prelude.{codes, if◌then◌else◌}
use Rattle.std.specs.List.{list_all}
use Rattle.uriparse_text.specs.Bytes.{colon, dot, is_among, is_hex, is_unreserved, is_sub_delim}
use Rattle.uriparse_text.specs.Cuts.{before, after}
use Rattle.uriparse_text.specs.Readings.{unless_fault}
use Rattle.uriparse_authority.specs.declared.authority.error.HostError.{HostError}
use Rattle.uriparse_authority.specs.declared.authority.error.HostError.TheVariants.{InvalidIPvFutureCharacter, InvalidIPvFutureFormat}

-- the byte may stand in IPvFuture: unreserved / sub-delims / ":"
abbrev pub is_future_byte : ℕ → Bool
is_future_byte b = is_unreserved b || is_sub_delim b || b == colon

-- the letter that IPvFuture begins with, in either case
abbrev pub is_future_letter : ℕ → Bool
is_future_letter b = is_among (codes "vV") b

-- 1*p: one or more bytes that pass
abbrev pub is_some_of : (ℕ → Bool) → List ℕ → Bool
is_some_of p [] = false
is_some_of p (b ∷ t) = p b && list_all p t

-- IPvFuture = "v" 1*HEXDIG "." 1*( unreserved / sub-delims / ":" )
pub record IsFuture (t : List ℕ) : Type 0 where
  pub letter : ℕ
  pub version : List ℕ
  pub address : List ℕ
  pub whole : t ≡ letter ∷ version ++ dot ∷ address
  pub is_letter : is_future_letter letter ≡ true
  pub is_version : is_some_of is_hex version ≡ true
  pub is_address : is_some_of is_future_byte address ≡ true

-- ---- reading

-- "v" begins the text
abbrev pub begins_future : List ℕ → Bool
begins_future [] = false
begins_future (b ∷ t) = is_future_letter b

-- something follows the dot
abbrev pub has_address : Option (List ℕ) → Bool
has_address None = false
has_address (Some []) = false
has_address (Some (b ∷ t)) = true

-- "v" 1*HEXDIG ".", and something after it
abbrev pub has_form : List ℕ → Bool
has_form [] = false
has_form (b ∷ t) = is_future_letter b && (is_some_of is_hex (before dot t) && has_address (after dot t))

-- Why a text is no such address, if it is none: a byte that none has comes before a wrong form.
abbrev pub fault : List ℕ → Option HostError
fault t =
    if not (list_all is_future_byte t) then Some InvalidIPvFutureCharacter
    else if not (has_form t) then Some InvalidIPvFutureFormat
    else None

-- the text itself where it is such an address, and else its fault
abbrev pub reading : List ℕ → Result (List ℕ) HostError
reading t = unless_fault (fault t) t
