-- Which schema a reference names.
use Rattle.std.specs.Prelude.{◌≡◌, ℕ, true, false, List, Option, Some, None, take, slice_get}
use Rattle.std.specs.Option.{IsSomeAnd}
use Rattle.uriparse.specs.Reference.{Parts}
use Rattle.examples.specs.Equal.{is_equal, is_among}

-- The first URI that equals the wanted one stands at this index.
pub record IsFirst (uris : List Parts) (wanted : Parts) (index : ℕ) : Type 0 where
  pub here : IsSomeAnd (slice_get uris index) (λ uri. is_equal uri wanted ≡ true)
  pub first : is_among (take index uris) wanted ≡ false

-- the index of the first URI that equals the wanted one; none where no URI does
abbrev pub IsLookup : List Parts → Parts → Option ℕ → Type 0
IsLookup uris wanted None = is_among uris wanted ≡ false
IsLookup uris wanted (Some index) = IsFirst uris wanted index
