-- Lines of an input.
use Rattle.std.specs.Prelude.{ℕ, List, [], ◌∷◌, ◌==◌, if◌then◌else◌}
use Rattle.std.specs.List.{onto_first}

-- the byte that ends a line
abbrev pub newline : ℕ
newline = 10

-- the lines of an input: what precedes each byte `end`, and what follows the last one, unless that is nothing
abbrev pub lines_of : ℕ → List ℕ → List (List ℕ)
lines_of end [] = []
lines_of end (b ∷ t) = if b == end then [] ∷ lines_of end t else onto_first b (lines_of end t)
