-- What is known of the next pairs of a query. No public contract cites these words.
use Rattle.std.specs.Prelude.{◌≡◌, ◌≤◌, ◌||◌, ◌-◌, ℕ, Bool, List, [], ◌∷◌, map, take, drop, length}
use Rattle.uriparse_text.specs.Pairs.{Pair, stands_for}
use Rattle.uriparse_text.specs.declared.query.ahead.Ahead.{Ahead}

abbrev pub name_of : Pair → List ℕ
name_of p = p.0

-- the answers, and true at the names that the pattern stands for
abbrev pub marked : List ℕ → List (List ℕ) → List Bool → List Bool
marked pattern [] answers = answers
marked pattern (s ∷ ss) [] = []
marked pattern (s ∷ ss) (b ∷ bs) = (b || stands_for pattern s) ∷ marked pattern ss bs

-- the answers that are left are those of the test at the first pairs
pub record Knows (is : Pair → Bool) (ahead : Ahead) (ps : List Pair) : Type 0 where
  pub size : length ahead.answers ≡ 64
  pub most : ahead.end ≤ 64
  pub answers : take (ahead.end - ahead.at) (drop ahead.at ahead.answers) ≡ take (ahead.end - ahead.at) (map is ps)
