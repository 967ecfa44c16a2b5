-- Identifiers of which no two are equal.
use Rattle.std.specs.Prelude.{◌≡◌, false, List, [], ◌∷◌}
use Rattle.std.specs.List.{list_any}
use Rattle.uriparse.specs.Reference.{Parts}
use Rattle.examples.specs.Equal.{is_equal}

-- no identifier equals a later one
abbrev pub AreDistinct : List Parts → Type 0
AreDistinct [] = Unit {0}
AreDistinct (p ∷ ps) = (list_any (λ q. is_equal p q) ps ≡ false) × AreDistinct ps
