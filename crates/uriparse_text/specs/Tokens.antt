-- Tokens of a text: RFC 3986, section 2.1.
use Rattle.std.specs.Prelude.{◌≡◌, ℕ, Bool, true, false, not, ◌&&◌, ◌==◌, List, [], ◌∷◌, if◌then◌else◌}
use Rattle.std.specs.List.{flat_map, list_all}
use Rattle.uriparse_text.specs.declared.internal.token.Token.{Token}
use Rattle.uriparse_text.specs.declared.internal.token.Token.TheVariants.{Byte, Escape}
use Rattle.uriparse_text.specs.Bytes.{percent, is_hex}

-- the bytes of a token
abbrev pub spell : Token → List ℕ
spell (Byte b) = b ∷ []
spell (Escape high low) = percent ∷ high ∷ low ∷ []

-- a token is one byte other than `%`, or an escape: `%` and two hexadecimal digits
abbrev pub is_token : Token → Bool
is_token (Byte b) = not (b == percent)
is_token (Escape high low) = is_hex high && is_hex low

-- pct-encoded = "%" HEXDIG HEXDIG: such an escape begins with this byte and goes on with these
abbrev pub is_escape : ℕ → List ℕ → Bool
is_escape b (high ∷ low ∷ _) = b == percent && is_hex high && is_hex low
is_escape b _ = false

-- the digits of an escape are hexadecimal
abbrev pub has_digits : Token → Bool
has_digits (Byte b) = true
has_digits (Escape high low) = is_hex high && is_hex low

-- the text, cut at its tokens. A `%` without two hexadecimal digits after it stays a byte by itself, and is no token.
unfoldable pub tokens : List ℕ → List Token
tokens [] = []
tokens (b ∷ []) = Byte b ∷ []
tokens (b ∷ c ∷ []) = Byte b ∷ Byte c ∷ []
tokens (b ∷ high ∷ low ∷ rest) =
    if is_escape b (high ∷ low ∷ rest) then Escape high low ∷ tokens rest else Byte b ∷ tokens (high ∷ low ∷ rest)

-- the text is a concatenation of tokens
abbrev pub is_well_formed : List ℕ → Bool
is_well_formed text = list_all is_token (tokens text)

-- the text is the concatenation of these tokens
pub record IsConcatenation (ts : List Token) (text : List ℕ) : Type 0 where
  pub whole : text ≡ flat_map spell ts
  pub each : list_all is_token ts ≡ true
