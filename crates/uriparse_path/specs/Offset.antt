-- Where the leftmost fault of a path is: RFC 3986, section 3.3, and the limit of segments.
use Rattle.std.specs.Prelude.{ℕ, ◌+◌, ◌-◌, ◌==◌, ◌&&◌, not, if◌then◌else◌, List, [], ◌∷◌, length}
use Rattle.uriparse_text.specs.declared.internal.class.Class.TheVariants.{Segment}
use Rattle.uriparse_text.specs.Faults.{begins_fine}
use Rattle.uriparse_path.specs.Path.{is_rooted, is_slash, max_segments, root, unrooted}

-- The number of bytes before the first at which neither a segment's token begins nor a slash that may stand there, for
-- what follows a leading slash; so many slashes may stand in it. The length if there is no such byte.
unfoldable pub offset_within : ℕ → List ℕ → ℕ
offset_within slashes [] = 0
offset_within slashes (b ∷ t) =
    if begins_fine Segment (b ∷ t) then 1 + offset_within slashes t
    else if is_slash b && not (slashes == 0) then 1 + offset_within (slashes - 1) t
    else 0

-- The place of the byte that is wrong, or of the slash that begins one segment too many. The length if there is neither.
abbrev pub fault_offset : List ℕ → ℕ
fault_offset t = length (root (is_rooted t)) + offset_within (max_segments - 1) (unrooted t)
