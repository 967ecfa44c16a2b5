-- Equal URIs.
use Rattle.std.specs.Prelude.{Bool, List, bytes_eq}
use Rattle.std.specs.List.{list_any}
use Rattle.uriparse.specs.Reference.{Parts}
use Rattle.uriparse.specs.Key.{key}

-- what `==` returns
abbrev pub is_equal : Parts → Parts → Bool
is_equal p q = bytes_eq (key p) (key q)

-- one of the list equals this one
abbrev pub is_among : List Parts → Parts → Bool
is_among ps q = list_any (λ p. is_equal p q) ps
