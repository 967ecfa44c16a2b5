-- The bytes that a text stands for, bytes written as a text of a class, and any text made one: RFC 3986, section 2.
use Rattle.std.specs.Prelude.{ℕ, Bool, ◌/◌, ◌%◌, ◌||◌, ◌&&◌, ◌==◌, not, List, [], ◌∷◌, ◌++◌, map, if◌then◌else◌}
use Rattle.std.specs.List.{flat_map, list_all}
use Rattle.std.specs.Int.{is_in_range}
use Rattle.uriparse_text.specs.declared.internal.token.Token.{Token}
use Rattle.uriparse_text.specs.declared.internal.token.Token.TheVariants.{Byte, Escape}
use Rattle.uriparse_text.specs.declared.internal.class.Class.{Class}
use Rattle.uriparse_text.specs.Classes.{is_plain}
use Rattle.uriparse_text.specs.Bytes.{is_among, plus_sign, space}
use Rattle.uriparse_text.specs.Tokens.{tokens, spell, is_escape}
use Rattle.uriparse_text.specs.Canonical.{escaped_byte}
use Rattle.uriparse_text.specs.Alike.{upper_digit_of}

-- ---- from texts to bytes

-- the byte that a token stands for: a byte for itself, an escape for the number of its digits
abbrev pub value_of : Token → ℕ
value_of (Byte b) = b
value_of (Escape high low) = escaped_byte high low

-- the bytes that the tokens of a text stand for
unfoldable pub decoded : List ℕ → List ℕ
decoded text = map value_of (tokens text)

-- ---- from bytes to texts

-- the token that a byte is written as: itself where the class has it, else an escape with upper-case digits
abbrev pub token_for : Class → ℕ → Token
token_for class b = if is_plain class b then Byte b else Escape (upper_digit_of (b / 16)) (upper_digit_of (b % 16))

-- the text that bytes are written as
unfoldable pub encoded : Class → List ℕ → List ℕ
encoded class bytes = flat_map spell (map (token_for class) bytes)

-- each is a byte: a word of private functions' clauses alone
abbrev pub are_bytes : List ℕ → Bool
are_bytes bytes = list_all (is_in_range 0 255) bytes

-- the escape of a byte: upper-case digits for its high half and its low half
abbrev pub escape_of : ℕ → Token
escape_of b = Escape (upper_digit_of ((b / 16) % 16)) (upper_digit_of (b % 16))

-- the text that bytes are written as, if some bytes of the class don't stand for themselves either
abbrev pub token_without : Class → List ℕ → ℕ → Token
token_without class without b = if is_plain class b && not (is_among without b) then Byte b else escape_of b

abbrev pub encoded_without : Class → List ℕ → List ℕ → List ℕ
encoded_without class without bytes = flat_map spell (map (token_without class without) bytes)

-- ---- from the texts of forms to bytes

-- In the texts of HTML forms a "+" stands for a space.
abbrev pub form_value_of : Token → ℕ
form_value_of (Byte b) = if b == plus_sign then space else b
form_value_of (Escape high low) = escaped_byte high low

abbrev pub form_decoded : List ℕ → List ℕ
form_decoded text = map form_value_of (tokens text)

-- ---- from any text to one without a fault

-- the byte stands for itself: it is of the class or one of these
abbrev pub may_stand : Class → List ℕ → ℕ → Bool
may_stand class more b = is_plain class b || is_among more b

-- the text with an escape for each byte that neither stands for itself nor begins an escape; so a `%` without two hexadecimal digits after it
-- becomes `%25`
abbrev pub escaped_in : Class → List ℕ → List ℕ → List ℕ
escaped_in class more [] = []
escaped_in class more (b ∷ after) =
    (if may_stand class more b || is_escape b after then b ∷ [] else spell (escape_of b)) ++ escaped_in class more after
