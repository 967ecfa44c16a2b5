-- Where the pairs of a query are in its text.
use Rattle.std.specs.Prelude.{◌≡◌, ℕ, ◌+◌, ◌<◌, Bool, false, List, [], ◌∷◌, ◌++◌, flat_map, length, drop, min, nat_le, if◌then◌else◌, Option, Some, None}
use Rattle.std.specs.List.{list_any}
use Rattle.uriparse_text.specs.Bytes.{ampersand}
use Rattle.uriparse_text.specs.Pairs.{Pair, is_named, pairs, pairs_left, piece_of}
use Rattle.uriparse_text.specs.Starts.{most}
use Rattle.uriparse_ffi.specs.Spans.{span}
use Rattle.uriparse_ffi.specs.declared.pairs.UriPair.{UriPair}

-- what is left of a query from this place: after its end there is nothing, not even an empty pair
abbrev pub left_from : List ℕ → ℕ → Option (List ℕ)
left_from q at = if nat_le at (length q) then Some (drop at q) else None

-- The pair begins there, as name [ "=" value ], and the next one after the byte that follows it, or at the largest number.
pub record IsPairAt (at : ℕ) (p : Pair) (o : UriPair) : Type 0 where
  pub name : o.name ≡ span at (Some p.0)
  pub value : o.value ≡ span (o.name.end + 1) p.1
  pub next : o.next ≡ min (at + length (piece_of p) + 1) most

-- The pair is the first one of the name, and it begins after the pairs before it, each of which ends in a "&". From `next` on those are left that follow
-- it.
pub record IsFirstNamedAt (name q : List ℕ) (p : Pair) (o : UriPair) : Type 0 where
  pub others : List Pair
  pub none : list_any (is_named name) others ≡ false
  pub place : IsPairAt (length (flat_map (λ p. piece_of p ++ ampersand ∷ []) others)) p o
  pub split : length q < most → pairs q ≡ others ++ p ∷ pairs_left (left_from q o.next)

-- The same of the pairs that are left from a place.
pub record IsNextNamedAt (name q : List ℕ) (at : ℕ) (p : Pair) (o : UriPair) : Type 0 where
  pub others : List Pair
  pub none : list_any (is_named name) others ≡ false
  pub place : IsPairAt (at + length (flat_map (λ p. piece_of p ++ ampersand ∷ []) others)) p o
  pub split : length q < most → pairs_left (left_from q at) ≡ others ++ p ∷ pairs_left (left_from q o.next)

-- the value of a pair, if it has one
abbrev pub value_given : Bool → List ℕ → Option (List ℕ)
value_given has t = if has then Some t else None
