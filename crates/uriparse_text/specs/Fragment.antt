-- The fragment of a reference: RFC 3986, section 3.5.
use Rattle.std.specs.Prelude.{ℕ, ◌==◌, if◌then◌else◌, List, Result}
use Rattle.uriparse_text.specs.declared.fragment.FragmentError.{FragmentError}
use Rattle.uriparse_text.specs.declared.fragment.FragmentError.TheVariants.{InvalidCharacter, InvalidPercentEncoding}
use Rattle.uriparse_text.specs.declared.internal.class.Class.TheVariants.{Query}
use Rattle.uriparse_text.specs.Bytes.{percent}
use Rattle.uriparse_text.specs.Faults.{IsIn}
use Rattle.uriparse_text.specs.Readings.{reading_in}

abbrev pub IsFragment : List ℕ → Type 0
IsFragment text = IsIn Query text

-- the error of a fault at this byte
abbrev pub error_of : ℕ → FragmentError
error_of byte = if byte == percent then InvalidPercentEncoding else InvalidCharacter

abbrev pub reading : List ℕ → Result (List ℕ) FragmentError
reading text = reading_in Query error_of text
