-- Reading unregistered schemes: RFC 3986, section 3.1.
use Rattle.std.specs.Prelude.{ℕ, Bool, ◌&&◌, List, Result, Ok, Err, if◌then◌else◌, not, is_some}
use Rattle.std.specs.Str.{str_to_ascii_lowercase}
use Rattle.uriparse_scheme.specs.declared.scheme.error.UnregisteredSchemeError.{UnregisteredSchemeError}
use Rattle.uriparse_scheme.specs.Registered.{registered_named}
use Rattle.uriparse_scheme.specs.Grammar.{is_scheme}

-- The text is a scheme, and in no case the name of a registered one.
abbrev pub is_unregistered : List ℕ → Bool
is_unregistered text = is_scheme text && not (is_some (registered_named (str_to_ascii_lowercase text)))

-- the text itself, if it is an unregistered scheme
abbrev pub reading : List ℕ → Result (List ℕ) UnregisteredSchemeError
reading text = if is_unregistered text then Ok text else Err (record {})
