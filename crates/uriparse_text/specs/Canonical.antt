-- The canonical spelling of a text: RFC 3986, sections 6.2.2.1 and 6.2.2.2.
use Rattle.std.specs.Prelude.{◌≡◌, ℕ, Bool, true, ◌==◌, ◌||◌, not, ◌+◌, ◌*◌, ◌/◌, List, [], ◌∷◌, ◌++◌, length, map, drop, if◌then◌else◌}
use Rattle.std.specs.List.{flat_map}
use Rattle.std.specs.Char.{digit_value, to_ascii_lowercase, to_ascii_uppercase}
use Rattle.std.specs.Hash as fed
use Rattle.std.specs.Simd.{first_chunks}
use Rattle.uriparse_text.specs.declared.internal.token.Token.{Token}
use Rattle.uriparse_text.specs.declared.internal.token.Token.TheVariants.{Byte, Escape}
use Rattle.uriparse_text.specs.declared.internal.token.Case.{Case}
use Rattle.uriparse_text.specs.declared.internal.token.Case.TheVariants.{Kept, Lowered}
use Rattle.uriparse_text.specs.Bytes.{is_unreserved, percent}
use Rattle.uriparse_text.specs.Tokens.{tokens, spell, is_well_formed}

-- the byte that an escape with these digits stands for
abbrev pub escaped_byte : ℕ → ℕ → ℕ
escaped_byte high low = 16 * digit_value high + digit_value low

-- a letter's case is kept, or it is made lower case
abbrev pub in_case : Case → ℕ → ℕ
in_case Kept b = b
in_case Lowered b = to_ascii_lowercase b

-- An escape of an unreserved byte becomes that byte, another escape gets upper-case digits, and other bytes stay.
-- Letters outside the escapes that are left are put in the case.
abbrev pub canonical_token : Case → Token → Token
canonical_token case (Byte b) = Byte (in_case case b)
canonical_token case (Escape high low) =
    if is_unreserved (escaped_byte high low)
    then Byte (in_case case (escaped_byte high low))
    else Escape (to_ascii_uppercase high) (to_ascii_uppercase low)

-- The byte begins an escape, or another one stands for it in a canonical spelling: a word of private functions' clauses alone.
abbrev pub may_change : Case → ℕ → Bool
may_change case b = b == percent || not (in_case case b == b)

-- the tokens of the text, each in canonical form
abbrev pub canonical_tokens : Case → List ℕ → List Token
canonical_tokens case text = map (canonical_token case) (tokens text)

-- the canonical spelling of a text in this case
unfoldable pub canonical_in : Case → List ℕ → List ℕ
canonical_in case text = flat_map spell (canonical_tokens case text)

-- the canonical spelling
abbrev pub canonical : List ℕ → List ℕ
canonical text = canonical_in Kept text

-- the canonical spelling in lower case: of schemes and registered names
abbrev pub canonical_lowered : List ℕ → List ℕ
canonical_lowered text = canonical_in Lowered text

-- the bytes are tokens, and their canonical spelling is the text's
pub record SpellsAlike (case : Case) (bytes text : List ℕ) : Type 0 where
  pub formed : is_well_formed bytes ≡ true
  pub same : canonical_in case bytes ≡ canonical_in case text

-- what a hasher is fed of bytes: as many blocks of sixty-four as there are, and then the bytes that are left
unfoldable pub fed_bytes : List ℕ → List (List ℕ)
fed_bytes bytes =
    let blocks = length bytes / 64 in
    first_chunks 64 blocks bytes ++ drop (blocks * 64) bytes ∷ []

-- what a hasher is fed for a canonical spelling: its bytes, and then 0xFF, which no spelling has
abbrev pub fed_text : List ℕ → List (List ℕ)
fed_text text = fed_bytes text ++ fed.u8 255
