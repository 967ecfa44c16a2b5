-- Canonical spellings of segments, each with its place in their list.
use Rattle.std.specs.Prelude.{ℕ, ◌+◌, List, [], ◌∷◌, if◌then◌else◌}
use Rattle.uriparse_text.specs.Canonical.{canonical}
use Rattle.uriparse_path.specs.Normal.{is_canonical}

-- the spellings of the segments that are not canonical, where the first has this place
abbrev pub placed : ℕ → List (List ℕ) → List (ℕ × List ℕ)
placed at [] = []
placed at (s ∷ ss) = if is_canonical s then placed (at + 1) ss else (at, canonical s) ∷ placed (at + 1) ss
