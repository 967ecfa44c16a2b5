-- Paths after edits.
use Rattle.std.specs.Prelude.{ℕ, Bool, nat_lt, if◌then◌else◌, List, [], ◌∷◌, ◌++◌, length, Result, Ok, Err}
use Rattle.uriparse_text.specs.Readings.{◌>>=◌}
use Rattle.uriparse_text.specs.Bytes.{dot}
use Rattle.uriparse_text.specs.declared.segment.error.PathError.{PathError}
use Rattle.uriparse_text.specs.declared.segment.error.PathError.TheVariants.{ExceededMaximumLength}
use Rattle.uriparse_path.specs.Path.{PathParts, has_two_slashes, max_segments, text}
use Rattle.uriparse_path.specs.Dots.{all_but_last}
use Rattle.uriparse_path.specs.Relative.{filled}

-- the segment pushed; one that is not empty replaces the only segment if that is empty
abbrev pub with_last : List (List ℕ) → List ℕ → List (List ℕ)
with_last ([] ∷ []) (b ∷ s) = (b ∷ s) ∷ []
with_last ss s = ss ++ s ∷ []

abbrev pub pushed : PathParts → List ℕ → PathParts
pushed p s = record p { segments = with_last p.segments s }

-- the path with the segment that was read pushed, or the error: the path is full, or the text is no segment
abbrev pub pushing : PathParts → Result (List ℕ) PathError → Result PathParts PathError
pushing p read = if nat_lt (length p.segments) max_segments then read >>= (λ s. Ok (pushed p s)) else Err ExceededMaximumLength

-- without the last segment; the only one is replaced by an empty one
abbrev pub popped : PathParts → PathParts
popped p = record p { segments = filled (all_but_last p.segments) }

-- one empty segment in place of all
abbrev pub cleared : PathParts → PathParts
cleared p = record p { segments = [] ∷ [] }

-- a leading "."
abbrev pub dotted : PathParts → PathParts
dotted p = record p { segments = (dot ∷ []) ∷ p.segments }

-- the path without an authority before it: a leading "." keeps its text from beginning with two slashes
abbrev pub with_dot_prefix : PathParts → PathParts
with_dot_prefix p = if has_two_slashes (text p) then dotted p else p

-- the same, unless an authority precedes the path
abbrev pub with_dot_prefix_unless : Bool → PathParts → PathParts
with_dot_prefix_unless has_authority p = if has_authority then p else with_dot_prefix p
