-- Schemes: RFC 3986, section 3.1.
use Rattle.std.specs.Prelude.{◌≡◌, ℕ, ⊤, true, false, not, List, [], ◌∷◌, ◌++◌, Option, Some, None, Result, if◌then◌else◌}
use Rattle.std.specs.Char.{is_ascii_alphabetic}
use Rattle.std.specs.List.{list_all}
use Rattle.std.specs.Str.{str_to_ascii_lowercase}
use Rattle.uriparse_text.specs.Canonical.{canonical_lowered}
use Rattle.uriparse_text.specs.Readings.{unless_fault}
use Rattle.uriparse_scheme.specs.declared.scheme.registered.RegisteredScheme.{RegisteredScheme}
use Rattle.uriparse_scheme.specs.declared.scheme.Scheme.{Scheme}
use Rattle.uriparse_scheme.specs.declared.scheme.Scheme.TheVariants.{Registered, Unregistered}
use Rattle.uriparse_scheme.specs.declared.scheme.error.SchemeError.{SchemeError}
use Rattle.uriparse_scheme.specs.declared.scheme.error.SchemeError.TheVariants.{Empty, StartsWithNonAlphabetic, InvalidCharacter}
use Rattle.uriparse_scheme.specs.declared.scheme.status.SchemeStatus.{SchemeStatus}
use Rattle.uriparse_scheme.specs.declared.scheme.status.SchemeStatus.TheVariants as statuses
use Rattle.uriparse_scheme.specs.Registered.{registered_named, name_of, status_of}
pub use Rattle.uriparse_scheme.specs.Grammar.{is_scheme_byte, is_scheme, IsUnregistered}

-- Every registered scheme is valid. Any other has to be a scheme, and no name in the table.
abbrev pub Valid : Scheme → Type 0
Valid (Registered s) = ⊤
Valid (Unregistered text) = IsUnregistered text

-- the registered scheme if there is one, else the unregistered scheme with this text
abbrev pub registered_or : List ℕ → Option RegisteredScheme → Scheme
registered_or text (Some s) = Registered s
registered_or text None = Unregistered text

-- the scheme that a text stands for: the registered one with this name in any case, else an unregistered one with this spelling
abbrev pub named : List ℕ → Scheme
named text = registered_or text (registered_named (str_to_ascii_lowercase text))

-- the text that a scheme prints: its name in lower case if it is registered, else its spelling
abbrev pub text : Scheme → List ℕ
text (Registered s) = name_of s
text (Unregistered spelling) = spelling

-- the canonical spelling: lower case
abbrev pub canonical_text : Scheme → List ℕ
canonical_text s = canonical_lowered (text s)

abbrev pub status : Scheme → SchemeStatus
status (Registered s) = status_of s
status (Unregistered spelling) = statuses.Unregistered

-- The text is a scheme, and stands for this one.
pub record Spells (t : List ℕ) (s : Scheme) : Type 0 where
  pub grammar : is_scheme t ≡ true
  pub value : s ≡ named t

-- why a text is not a scheme, if it is not
unfoldable pub fault : List ℕ → Option SchemeError
fault [] = Some Empty
fault (b ∷ rest) =
    if not (is_ascii_alphabetic b) then Some StartsWithNonAlphabetic
    else if not (list_all is_scheme_byte rest) then Some InvalidCharacter
    else None

-- the scheme that the text spells, or its fault
abbrev pub reading : List ℕ → Result Scheme SchemeError
reading t = unless_fault (fault t) (named t)

-- ---- the faults in plain words

-- The first byte is not a letter.
pub record BeginsWithNoLetter (t : List ℕ) : Type 0 where
  pub first : ℕ
  pub rest : List ℕ
  pub whole : t ≡ first ∷ rest
  pub here : is_ascii_alphabetic first ≡ false

-- The first byte is a letter, and a later one may not appear in a scheme.
pub record HasStrayByte (t : List ℕ) : Type 0 where
  pub first : ℕ
  pub before : List ℕ
  pub stray : ℕ
  pub after : List ℕ
  pub whole : t ≡ first ∷ before ++ stray ∷ after
  pub letter : is_ascii_alphabetic first ≡ true
  pub here : is_scheme_byte stray ≡ false
