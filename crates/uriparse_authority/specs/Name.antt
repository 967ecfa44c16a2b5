-- Registered names: RFC 3986, section 3.2.2.
use Rattle.std.specs.Prelude.{ℕ, List, Result, Err, is_none, if◌then◌else◌}
use Rattle.uriparse_text.specs.declared.internal.class.Class.TheVariants as class
use Rattle.uriparse_text.specs.Faults.{IsIn}
use Rattle.uriparse_text.specs.Readings.{reading_in}
use Rattle.uriparse_text.specs.Address.{ipv4_reading}
use Rattle.uriparse_authority.specs.declared.authority.error.RegisteredNameError.{RegisteredNameError}

-- reg-name = *( unreserved / pct-encoded / sub-delims )
abbrev pub IsName : List ℕ → Type 0
IsName t = IsIn class.Name t

abbrev pub error_of : ℕ → RegisteredNameError
error_of byte = record {}

-- a text that spells an IPv4 address is read as that, and not as a name
abbrev pub reading : List ℕ → Result (List ℕ) RegisteredNameError
reading t = if is_none (ipv4_reading t) then reading_in class.Name error_of t else Err (record {})
