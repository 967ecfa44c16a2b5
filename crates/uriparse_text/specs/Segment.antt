-- A segment of a path: RFC 3986, section 3.3.
use Rattle.std.specs.Prelude.{ℕ, Bool, ◌==◌, ◌||◌, if◌then◌else◌, List, [], ◌∷◌, Option, Result, bytes_eq}
use Rattle.std.specs.Option.{option_map}
use Rattle.uriparse_text.specs.declared.internal.class.Class.TheVariants.{Segment}
use Rattle.uriparse_text.specs.Bytes.{dot, percent}
use Rattle.uriparse_text.specs.Canonical.{canonical}
use Rattle.uriparse_text.specs.Faults as text
use Rattle.uriparse_text.specs.Readings.{reading_in}
use Rattle.uriparse_text.specs.declared.segment.error.PathError.{PathError}
use Rattle.uriparse_text.specs.declared.segment.error.PathError.TheVariants.{InvalidCharacter, InvalidPercentEncoding}

-- segment = *pchar
abbrev pub is_segment : List ℕ → Bool
is_segment s = text.is_in Segment s

abbrev pub IsSegment : List ℕ → Type 0
IsSegment s = text.IsIn Segment s

-- the error of a fault at this byte
abbrev pub error_of : ℕ → PathError
error_of byte = if byte == percent then InvalidPercentEncoding else InvalidCharacter

-- the error of a segment's leftmost fault
abbrev pub fault : List ℕ → Option PathError
fault s = option_map error_of (text.fault Segment s)

abbrev pub reading : List ℕ → Result (List ℕ) PathError
reading s = reading_in Segment error_of s

-- ---- dot segments, whose dots may be escaped

-- "."
unfoldable pub is_single_dot : List ℕ → Bool
is_single_dot s = bytes_eq (canonical s) (dot ∷ [])

-- ".."
unfoldable pub is_double_dot : List ℕ → Bool
is_double_dot s = bytes_eq (canonical s) (dot ∷ dot ∷ [])

abbrev pub is_dot_segment : List ℕ → Bool
is_dot_segment s = is_single_dot s || is_double_dot s
