-- What a reader found.
use Rattle.std.specs.Prelude.{◌≡◌, ℕ, ◌==◌, List, [], Option, Some, None, if◌then◌else◌, length, unwrap_or}
use Rattle.uriparse_text.specs.declared.internal.class.Class.{Class}
use Rattle.uriparse_text.specs.declared.internal.token.Case.{Case}
use Rattle.uriparse_text.specs.Spelling.{IsValidText}

-- the text, if its word isn't 0
abbrev pub if_there : {A : Type 0} → ℕ → A → Option A
if_there present t = if present == 0 then None else Some t

-- These words stand for an optional text: whether it is there, which is 2 if it is known to be canonical, and its length.
pub record AreWords (class : Class) (case : Case) (present len : ℕ) (text : Option (List ℕ)) : Type 0 where
  pub is_there : if_there present (unwrap_or text []) ≡ text
  pub is_long : length (unwrap_or text []) ≡ len
  pub is_valid_text : IsValidText class case (present == 2) (unwrap_or text [])
