-- User names: RFC 3986, section 3.2.1.
use Rattle.std.specs.Prelude.{ℕ, ◌==◌, if◌then◌else◌, List, Result}
use Rattle.uriparse_text.specs.declared.internal.class.Class.TheVariants as class
use Rattle.uriparse_text.specs.Bytes.{percent, colon}
use Rattle.uriparse_text.specs.Faults.{IsIn}
use Rattle.uriparse_text.specs.Readings.{reading_in}
use Rattle.uriparse_authority.specs.declared.authority.error.UsernameError.{UsernameError}
use Rattle.uriparse_authority.specs.declared.authority.error.UsernameError.TheVariants.{ContainsColon, InvalidCharacter, InvalidPercentEncoding}

-- what userinfo = *( unreserved / pct-encoded / sub-delims / ":" ) may have before its first colon
abbrev pub IsUsername : List ℕ → Type 0
IsUsername t = IsIn class.Name t

-- the error of a fault at this byte
abbrev pub error_of : ℕ → UsernameError
error_of byte =
    if byte == percent then InvalidPercentEncoding
    else (if byte == colon then ContainsColon else InvalidCharacter)

abbrev pub reading : List ℕ → Result (List ℕ) UsernameError
reading t = reading_in class.Name error_of t
