-- Where the segments of a path are in its text.
use Rattle.std.specs.Prelude.{ℕ, ◌==◌, ◌&&◌, if◌then◌else◌, List}
use Rattle.uriparse_path.specs.Path.{is_rooted, pieces}
use Rattle.uriparse_path.specs.Text.{pieces_left}
use Rattle.uriparse_ffi.specs.Pairs.{left_from}

-- The segments that are left of a path from this place: from its start on all of them, and from another place on those of the text that follows it.
-- After the path's end there is none, not even an empty one.
abbrev pub segments_left : List ℕ → ℕ → List (List ℕ)
segments_left h at = if at == 0 then pieces h else pieces_left (left_from h at)

-- where the first of them begins: after the slash that the path begins with, or at this place
abbrev pub segment_begin : List ℕ → ℕ → ℕ
segment_begin h at = if at == 0 && is_rooted h then 1 else at
