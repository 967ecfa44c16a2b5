-- Where the leftmost fault of a text is.
use Rattle.std.specs.Prelude.{ℕ, ◌+◌, if◌then◌else◌, List, [], ◌∷◌, Option, Some, None}
use Rattle.uriparse_text.specs.declared.internal.class.Class.{Class}
use Rattle.uriparse_text.specs.Faults.{begins_fine}

-- the number of bytes before the first at which no token of the class begins, or the length if there is none
unfoldable pub fault_offset : Class → List ℕ → ℕ
fault_offset class [] = 0
fault_offset class (b ∷ t) = if begins_fine class (b ∷ t) then 1 + fault_offset class t else 0

-- a place in a component that this many bytes of delimiters precede, or 0 without the component
abbrev pub offset_after : ℕ → (List ℕ → ℕ) → Option (List ℕ) → ℕ
offset_after n offset None = 0
offset_after n offset (Some t) = n + offset t
