-- Passwords: RFC 3986, section 3.2.1.
use Rattle.std.specs.Prelude.{ℕ, ◌==◌, if◌then◌else◌, List, Result}
use Rattle.uriparse_text.specs.declared.internal.class.Class.TheVariants as class
use Rattle.uriparse_text.specs.Bytes.{percent}
use Rattle.uriparse_text.specs.Faults.{IsIn}
use Rattle.uriparse_text.specs.Readings.{reading_in}
use Rattle.uriparse_authority.specs.declared.authority.error.PasswordError.{PasswordError}
use Rattle.uriparse_authority.specs.declared.authority.error.PasswordError.TheVariants.{InvalidCharacter, InvalidPercentEncoding}

-- what userinfo = *( unreserved / pct-encoded / sub-delims / ":" ) may have after its first colon
abbrev pub IsPassword : List ℕ → Type 0
IsPassword t = IsIn class.UserInfo t

-- the error of a fault at this byte
abbrev pub error_of : ℕ → PasswordError
error_of byte = if byte == percent then InvalidPercentEncoding else InvalidCharacter

abbrev pub reading : List ℕ → Result (List ℕ) PasswordError
reading t = reading_in class.UserInfo error_of t
