-- The relative path that leads from a base's path to another one: RFC 3986, sections 4.2 and 5.2.
use Rattle.std.specs.Prelude.{ℕ, ◌+◌, Bool, true, false, ◌&&◌, not, nat_lt, if◌then◌else◌, List, [], ◌∷◌, ◌++◌, length, map, bytes_eq, Option, Some, None}
use Rattle.uriparse_text.specs.Bytes.{dot}
use Rattle.uriparse_path.specs.Path.{PathParts, max_segments}
use Rattle.uriparse_path.specs.Dots.{all_but_last, has_dot_segment, is_double_dot}
use Rattle.uriparse_path.specs.Relative.{is_first, has_colon}

-- ".." for each of these directories
abbrev pub double_dots : List (List ℕ) → List (List ℕ)
double_dots ds = map (λ d. dot ∷ dot ∷ []) ds

-- What leads from these directories to these segments: without those that both start with, in the same spelling, ".." for each directory that is
-- left, then the segments that are left. The last segment is not a directory.
abbrev pub apart : List (List ℕ) → List (List ℕ) → List (List ℕ)
apart [] ss = ss
apart (d ∷ ds) [] = double_dots (d ∷ ds)
apart (d ∷ ds) (s ∷ []) = double_dots (d ∷ ds) ++ s ∷ []
apart (d ∷ ds) (s ∷ r ∷ ss) = if bytes_eq d s then apart ds (r ∷ ss) else double_dots (d ∷ ds) ++ s ∷ r ∷ ss

-- a first segment that would be read as a slash, as no path or as a scheme: an empty one, or one with a colon
abbrev pub is_taken : List ℕ → Bool
is_taken [] = true
is_taken (b ∷ s) = has_colon (b ∷ s)

-- the segments, with a leading "." before such a one
abbrev pub fronted : List (List ℕ) → List (List ℕ)
fronted ss = if is_first is_taken ss then (dot ∷ []) ∷ ss else ss

-- what leads from the directory of one path to another path, without that "."
abbrev pub apart_of : PathParts → PathParts → List (List ℕ)
apart_of b t = apart (all_but_last b.segments) t.segments

-- there are no directories, or the first one is also the first of the others
abbrev pub stays_below : List (List ℕ) → List (List ℕ) → Bool
stays_below [] ss = true
stays_below (d ∷ ds) [] = false
stays_below (d ∷ ds) (s ∷ []) = false
stays_below (d ∷ ds) (s ∷ r ∷ ss) = bytes_eq d s

-- Both are absolute, or neither is and no ".." leaves the base's first directory. A ".." out of that would lead to a slash.
abbrev pub have_one_root : PathParts → PathParts → Bool
have_one_root b t = if b.absolute then t.absolute else not t.absolute && stays_below (all_but_last b.segments) t.segments

-- that holds, and they have no dot segment, except as the base's last one
abbrev pub may_lead : PathParts → PathParts → Bool
may_lead b t = have_one_root b t && (not (has_dot_segment (all_but_last b.segments)) && not (has_dot_segment t.segments))

-- merged with the base's directory there are not too many segments, and there is room for that "."
abbrev pub has_room : PathParts → PathParts → Bool
has_room b t = nat_lt (length (all_but_last b.segments) + length (apart_of b t)) max_segments

-- the relative path that leads from one path to another, if there is one
abbrev pub leading : PathParts → PathParts → Option PathParts
leading b t = if may_lead b t && has_room b t then Some (record { absolute = false; segments = fronted (apart_of b t) }) else None

-- the empty path: one empty segment
abbrev pub no_path : PathParts
no_path = record { absolute = false; segments = [] ∷ [] }

-- the number of ".." segments
abbrev pub double_dots_in : List (List ℕ) → ℕ
double_dots_in [] = 0
double_dots_in (s ∷ ss) = if is_double_dot s then double_dots_in ss + 1 else double_dots_in ss
