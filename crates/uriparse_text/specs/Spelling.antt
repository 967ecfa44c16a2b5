-- What a text keeps beside its bytes.
use Rattle.std.specs.Prelude.{◌≡◌, ℕ, Bool, true, false, ◌&&◌, ◌==◌, List, string_bytes}
use Rattle.uriparse_text.specs.declared.internal.spelling.Spelling.{Spelling}
use Rattle.uriparse_text.specs.declared.internal.spelling.Spelling.TheVariants.{Borrowed, Owned, OwnedCanonical}
use Rattle.uriparse_text.specs.declared.internal.class.Class.{Class}
use Rattle.uriparse_text.specs.declared.internal.token.Case.{Case}
use Rattle.uriparse_text.specs.Faults.{IsIn}
use Rattle.uriparse_text.specs.Classes.{is_plain}
use Rattle.uriparse_text.specs.Canonical.{canonical_in, in_case}

-- the bytes
abbrev pub spelled : Spelling → List ℕ
spelled (Borrowed t known) = t.now
spelled (Owned s) = string_bytes s
spelled (OwnedCanonical s) = string_bytes s

-- they are said to be canonical
abbrev pub is_known : Spelling → Bool
is_known (Borrowed t known) = known == 1
is_known (Owned s) = false
is_known (OwnedCanonical s) = true

-- the bytes are of the class, and canonical if they are marked so
pub record IsValidText (class : Class) (case : Case) (known : Bool) (text : List ℕ) : Type 0 where
  pub inside : IsIn class text
  pub canonical : known ≡ true → canonical_in case text ≡ text

-- a byte of the class that stays as it is in a canonical spelling: a word of private functions' clauses alone
abbrev pub is_canonical_byte : Class → Case → ℕ → Bool
is_canonical_byte class case b = is_plain class b && in_case case b == b
