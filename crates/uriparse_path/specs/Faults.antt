-- Faults of a text that is no path: RFC 3986, section 3.3, and the limit of segments.
use Rattle.std.specs.Prelude.{◌≡◌, ℕ, Bool, true, nat_lt, ◌==◌, ◌&&◌, ◌||◌, List, [], ◌∷◌, ◌++◌, length, take, Option, Some, None, Result, if◌then◌else◌}
use Rattle.std.specs.Option.{option_or}
use Rattle.std.specs.Result.{result_map_both}
use Rattle.uriparse_text.specs.Bytes.{percent, slash, question_mark, number_sign}
use Rattle.uriparse_text.specs.Cuts.{from_first, lacks, up_to}
use Rattle.uriparse_text.specs.Readings.{unless_fault}
use Rattle.uriparse_text.specs.declared.segment.error.PathError.{PathError}
use Rattle.uriparse_text.specs.declared.segment.error.PathError.TheVariants.{ExceededMaximumLength}
use Rattle.uriparse_text.specs.Segment as segment
use Rattle.uriparse_path.specs.Path.{PathParts, is_slash, max_segments, pieces, spelled}

-- A path ends before a `?` or a `#`.
abbrev pub ends_path : ℕ → Bool
ends_path b = b == question_mark || b == number_sign

-- the path that a text begins with, or all of the text if it may not end before; for the clause of a private function
abbrev pub path_front : Bool → List ℕ → List ℕ
path_front ends t = up_to (λ b. ends && ends_path b) t

-- the error of a fault at this byte: a segment's, or, of a slash, that one segment too many begins there
abbrev pub error_of : ℕ → PathError
error_of byte = if is_slash byte then ExceededMaximumLength else segment.error_of byte

-- the number of segments, and the length; for clauses of private functions
abbrev pub measured : Result (ℕ × ℕ × ℕ) PathError → Result (ℕ × ℕ) PathError
measured r = result_map_both (λ m. (m.0, m.1)) (λ e. e) r

-- the fault of the first piece that has one
abbrev pub first_fault : List (List ℕ) → Option PathError
first_fault [] = None
first_fault (s ∷ ss) = option_or (segment.fault s) (first_fault ss)

-- the fault of too many pieces
abbrev pub length_fault : ℕ → ℕ → Option PathError
length_fault limit count = if nat_lt limit count then Some ExceededMaximumLength else None

-- The leftmost fault of pieces under a limit of their number: the fault of the first faulty one within the limit. After these
-- comes the fault of the length, at the slash that would start one segment more.
abbrev pub fault_within : ℕ → List (List ℕ) → Option PathError
fault_within limit ps = option_or (first_fault (take limit ps)) (length_fault limit (length ps))

unfoldable pub fault : List ℕ → Option PathError
fault t = fault_within max_segments (pieces t)

-- The text u begins with a path without fault: its text and what follows it, with this number of segments, and no escape if escaped is 0. For the
-- clause of a private function.
abbrev pub BeginsWithPath : (u path following : List ℕ) (count escaped : ℕ) → Type 0
BeginsWithPath u path following count escaped =
    (fault (up_to ends_path u) ≡ None)
    × (path ≡ up_to ends_path u)
    × (following ≡ from_first ends_path u)
    × (count ≡ length (pieces (up_to ends_path u)))
    × (escaped ≡ 0 → lacks percent path ≡ true)

-- A prefix without fault has as many segments as a path may have, and a slash follows it, which would start one more.
pub record PassesLimit (t : List ℕ) : Type 0 where
  pub front : List ℕ
  pub following : List ℕ
  pub whole : t ≡ front ++ slash ∷ following
  pub none : fault front ≡ None
  pub full : length (pieces front) ≡ max_segments

-- the path that the text spells, or the leftmost fault
abbrev pub reading : List ℕ → Result PathParts PathError
reading t = unless_fault (fault t) (spelled t)
