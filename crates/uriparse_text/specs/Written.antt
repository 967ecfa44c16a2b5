-- How pieces of a query are written one after another. No public contract cites these words.
use Rattle.std.specs.Prelude.{ℕ, Bool, ◌≡◌, ◌⊎◌, ◌&&◌, ◌||◌, not, bytes_eq, false, true, if◌then◌else◌, List, [], ◌∷◌, ◌++◌, flat_map, map}
use Rattle.std.specs.List.{list_all, list_any, slice_split}
use Rattle.uriparse_text.specs.declared.internal.class.Class.TheVariants.{Query}
use Rattle.uriparse_text.specs.Bytes.{ampersand}
use Rattle.uriparse_text.specs.Cuts.{before, lacks}
use Rattle.uriparse_text.specs.Faults.{allows}
use Rattle.uriparse_text.specs.Tokens.{tokens}
use Rattle.uriparse_text.specs.Pairs.{Pair, pair_of, pairs, piece_of, is_ampersand, is_named}

-- a query without "&"
abbrev pub is_piece : List ℕ → Bool
is_piece s = lacks ampersand s && list_all (allows Query) (tokens s)

-- the piece makes room for the pair that is set: it is of the name, or an empty one at the end
abbrev pub makes_room : List ℕ → Bool → List ℕ → Bool
makes_room name last s = is_named name (pair_of s) || (last && bytes_eq s [])

-- what a piece becomes where the pair of this piece is set: the first that makes room that one, and the name's others none
abbrev pub next_pieces : List ℕ → List ℕ → Bool → Bool → List ℕ → List (List ℕ)
next_pieces name new done last s =
    if not done && makes_room name last s then new ∷ [] else if is_named name (pair_of s) then [] else s ∷ []

-- the pieces, each with a "&" after it
abbrev pub ended : List (List ℕ) → List ℕ
ended ss = flat_map (λ s. s ++ ampersand ∷ []) ss

-- the text has these pieces, each with a "&" after it
abbrev pub AreWritten : List (List ℕ) → List ℕ → Type 0
AreWritten ss t = (t ≡ ended ss) × (list_all is_piece ss ≡ true)

-- the text has pieces of these pairs, each with a "&" after it
abbrev pub ArePairsWritten : List Pair → List ℕ → Type 0
ArePairsWritten ps t = (ss : List (List ℕ)) × AreWritten ss t × (map pair_of ss ≡ ps)

-- the pieces of a query between its "&", of which each is one
abbrev pub ArePieces : List ℕ → List (List ℕ) → Type 0
ArePieces q ss = (ss ≡ slice_split is_ampersand q) × (list_all is_piece ss ≡ true)

-- an empty piece ends the query
abbrev pub EndsOpen : List ℕ → Type 0
EndsOpen q = (q ≡ []) ⊎ ((front : List ℕ) × (q ≡ front ++ ampersand ∷ []))

-- This is left of a query from the first pair on that passes.
pub record IsFirstAt (passes : Pair → Bool) (q left : List ℕ) : Type 0 where
  pub others : List Pair
  pub whole : q ≡ flat_map (λ p. piece_of p ++ ampersand ∷ []) others ++ left
  pub split : pairs q ≡ others ++ pairs left
  pub none : list_any passes others ≡ false
  pub first : passes (pair_of (before ampersand left)) ≡ true
