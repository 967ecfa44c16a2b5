-- Segments that servers take for different paths: RFC 3986, sections 3.3 and 7.3.
use Rattle.std.specs.Prelude.{ℕ, Bool, false, ◌==◌, ◌&&◌, ◌||◌, List, [], ◌∷◌, bytes_eq}
use Rattle.std.specs.List.{list_any}
use Rattle.uriparse_text.specs.declared.internal.token.Token.{Token}
use Rattle.uriparse_text.specs.declared.internal.token.Token.TheVariants.{Byte, Escape}
use Rattle.uriparse_text.specs.Bytes.{dot, is_among, number_sign, percent, question_mark, slash}
use Rattle.uriparse_text.specs.Canonical.{escaped_byte}
use Rattle.uriparse_text.specs.Coding.{decoded}
use Rattle.uriparse_text.specs.Cuts.{up_to}
use Rattle.uriparse_text.specs.Tokens.{tokens}

-- `;`
abbrev pub semicolon : ℕ
semicolon = 59

-- `\`
abbrev pub backslash : ℕ
backslash = 92

-- NUL, "%", "/" and "\"
abbrev pub is_ambiguous_byte : ℕ → Bool
is_ambiguous_byte b = is_among (0 ∷ percent ∷ slash ∷ backslash ∷ []) b

-- an escape of one of them
abbrev pub is_ambiguous_token : Token → Bool
is_ambiguous_token (Byte b) = false
is_ambiguous_token (Escape high low) = is_ambiguous_byte (escaped_byte high low)

abbrev pub has_ambiguous_escape : List ℕ → Bool
has_ambiguous_escape s = list_any is_ambiguous_token (tokens s)

-- ";", "?" and "#", at which a reader that decodes a segment first may take it to end
abbrev pub is_name_end : ℕ → Bool
is_name_end b = is_among (semicolon ∷ question_mark ∷ number_sign ∷ []) b

-- the bytes that the segment stands for, up to the first of these
abbrev pub name_of : List ℕ → List ℕ
name_of s = up_to is_name_end (decoded s)

-- "." and ".."
abbrev pub are_dots : List ℕ → Bool
are_dots bytes = bytes_eq bytes (dot ∷ []) || bytes_eq bytes (dot ∷ dot ∷ [])

-- a dot segment, then ";" or an escape of one of these, and whatever follows
abbrev pub has_dots_before_end : List ℕ → Bool
has_dots_before_end s = list_any is_name_end (decoded s) && are_dots (name_of s)

unfoldable pub is_ambiguous : List ℕ → Bool
is_ambiguous s = has_ambiguous_escape s || has_dots_before_end s

-- ---- words of private functions' clauses alone

abbrev pub begins_with_end : List ℕ → Bool
begins_with_end [] = false
begins_with_end (b ∷ t) = is_name_end b

abbrev pub begins_with_dot : List ℕ → Bool
begins_with_dot [] = false
begins_with_dot (b ∷ t) = b == dot
