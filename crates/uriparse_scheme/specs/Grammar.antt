-- The grammar of schemes: RFC 3986, section 3.1.
use Rattle.std.specs.Prelude.{◌≡◌, ℕ, Bool, true, false, ◌||◌, ◌&&◌, List, [], ◌∷◌, codes, None}
use Rattle.std.specs.Char.{is_ascii_alphabetic, is_ascii_alphanumeric}
use Rattle.std.specs.List.{list_all}
use Rattle.std.specs.Str.{str_to_ascii_lowercase}
use Rattle.uriparse_text.specs.Bytes.{is_among}
use Rattle.uriparse_scheme.specs.Registered.{registered_named}

-- ALPHA / DIGIT / "+" / "-" / "."
abbrev pub is_scheme_byte : ℕ → Bool
is_scheme_byte b = is_ascii_alphanumeric b || is_among (codes "+-.") b

-- scheme = ALPHA *( ALPHA / DIGIT / "+" / "-" / "." )
abbrev pub is_scheme : List ℕ → Bool
is_scheme [] = false
is_scheme (b ∷ rest) = is_ascii_alphabetic b && list_all is_scheme_byte rest

-- The text is a scheme, and in no case the name of a registered one.
pub record IsUnregistered (text : List ℕ) : Type 0 where
  pub scheme : is_scheme text ≡ true
  pub nameless : registered_named (str_to_ascii_lowercase text) ≡ None
