-- The list of a path's segments.
use Rattle.std.specs.Prelude.{List, [], ◌∷◌, slice_index_or}
use Rattle.std.specs.Vec.{with_items}
use Rattle.uriparse_path.specs.declared.path.list.Storage.{Storage}
use Rattle.uriparse_path.specs.declared.path.list.Storage.TheVariants.{One, Many}

abbrev pub elements : {X : Type 0} → Storage X → List X
elements (One x) = x ∷ []
elements (Many v) = v.items

-- the same with these elements, as many as before
abbrev pub with_elements : {X : Type 0} → Storage X → List X → Storage X
with_elements (One x) ws = One (slice_index_or ws 0 x)
with_elements (Many v) ws = Many (with_items v ws)
