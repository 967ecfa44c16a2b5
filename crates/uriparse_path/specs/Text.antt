-- The text of a path, walked piece by piece.
use Rattle.std.specs.Prelude.{ℕ, List, [], Option, Some, None}
use Rattle.std.specs.List.{slice_split}
use Rattle.uriparse_path.specs.Path.{is_slash}

-- the pieces between slashes of what is left of a text, or none if nothing is left, not even an empty piece
abbrev pub pieces_left : Option (List ℕ) → List (List ℕ)
pieces_left None = []
pieces_left (Some t) = slice_split is_slash t
