-- The pairs of the query of a reference: RFC 3986, section 3.4.
use Rattle.std.specs.Prelude.{ℕ, Bool, List, [], ◌∷◌, Option, Some, None, unwrap_or}
use Rattle.std.specs.List.{find, list_any}
use Rattle.std.specs.Option.{option_map}
use Rattle.uriparse_text.specs.Pairs.{Pair, is_named, joined_pairs, pairs_left}
use Rattle.uriparse_reference.specs.Reference.{Parts}

-- its pairs; without a query there are none
abbrev pub pairs_of : Parts → List Pair
pairs_of p = pairs_left p.query

-- the value of the first pair of the name, empty if the pair has none
abbrev pub pair_in : List ℕ → Parts → Option (List ℕ)
pair_in name p = option_map (λ q. unwrap_or q.1 []) (find (is_named name) (pairs_of p))

abbrev pub has_pair_in : List ℕ → Parts → Bool
has_pair_in name p = list_any (is_named name) (pairs_of p)

-- the query of some pairs; without a pair there is none
abbrev pub query_of : List Pair → Option (List ℕ)
query_of [] = None
query_of (p ∷ ps) = Some (joined_pairs (p ∷ ps))

-- the reference with other pairs
abbrev pub with_pairs : Parts → List Pair → Parts
with_pairs p ps = record p { query = query_of ps }
