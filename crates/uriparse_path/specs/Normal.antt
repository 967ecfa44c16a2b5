-- Normal forms of paths: RFC 3986, section 6.2.2.
use Rattle.std.specs.Prelude.{ℕ, Bool, true, false, ◌&&◌, ◌||◌, not, if◌then◌else◌, List, [], ◌∷◌, map, bytes_eq}
use Rattle.std.specs.List.{list_all}
use Rattle.uriparse_text.specs.Bytes.{dot}
use Rattle.uriparse_text.specs.Canonical.{canonical}
use Rattle.uriparse_path.specs.declared.path.normal.PathContext.{PathContext}
use Rattle.uriparse_path.specs.Path.{PathParts, starts_with_empty_segment, text, is_rooted, spelled}
use Rattle.uriparse_path.specs.Dots.{is_single_dot, is_double_dot, has_dot_segment, undot}
use Rattle.uriparse_path.specs.Relative.{needs_leading_dot, relative_normal}
use Rattle.uriparse_path.specs.Edits.{with_dot_prefix_unless}

-- the same path with each segment in canonical spelling
abbrev pub canonical_path : PathParts → PathParts
canonical_path p = record { absolute = p.absolute; segments = map canonical p.segments }

-- the path stays relative to a base when it is normalized
abbrev pub stays_relative : PathParts → Bool → Bool
stays_relative p as_reference = as_reference && not (is_rooted (text p))

-- The normal form of a path. One that may stand in a reference without a scheme can stay relative. From any other path the dot segments
-- are removed; one that has none keeps its list.
abbrev pub pnormal : PathParts → Bool → PathParts
pnormal p as_reference =
    if stays_relative p as_reference then record { absolute = false; segments = relative_normal p.segments }
    else if has_dot_segment p.segments then spelled (canonical (undot (text p)))
    else canonical_path p

-- the normal form of a path in a reference: a "." keeps it from beginning with two slashes unless an authority precedes it
abbrev pub normal_at : PathContext → PathParts → PathParts
normal_at context p = with_dot_prefix_unless context.has_authority (pnormal p (not context.has_scheme))

-- ---- which paths are in normal form

abbrev pub is_canonical : List ℕ → Bool
is_canonical s = bytes_eq (canonical s) s

-- any number of ".." first, then no dot segment
abbrev pub begins_with_double_dots : List (List ℕ) → Bool
begins_with_double_dots [] = true
begins_with_double_dots (s ∷ ss) = if is_double_dot s then begins_with_double_dots ss else not (has_dot_segment (s ∷ ss))

-- a "." comes first and is needed there
abbrev pub has_needed_leading_dot : List (List ℕ) → Bool
has_needed_leading_dot [] = false
has_needed_leading_dot (s ∷ ss) = is_single_dot s && begins_with_double_dots ss && needs_leading_dot (s ∷ ss) ss

-- the segments are in normal form, for a path that stays relative or for another
abbrev pub are_normal : Bool → List (List ℕ) → Bool
are_normal stays ss = list_all is_canonical ss && (if stays then begins_with_double_dots ss || has_needed_leading_dot ss else not (has_dot_segment ss))

-- the normal form of the path has its text
abbrev pub is_normal : PathParts → Bool → Bool
is_normal p as_reference = are_normal (stays_relative p as_reference) p.segments

-- the path is absolute and normal except for a leading ".", which is needed without an authority
abbrev pub is_dot_prefixed : Bool → List (List ℕ) → Bool
is_dot_prefixed absolute [] = false
is_dot_prefixed absolute (s ∷ ss) =
    absolute && bytes_eq s (dot ∷ []) && starts_with_empty_segment ss && is_normal (record { absolute = absolute; segments = ss }) false

-- the normal form of the path in a reference has the path's text
abbrev pub is_normal_at : PathContext → PathParts → Bool
is_normal_at context p = is_normal p (not context.has_scheme) || (not context.has_authority && is_dot_prefixed p.absolute p.segments)
