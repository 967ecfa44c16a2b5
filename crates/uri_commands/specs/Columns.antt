-- A line of fields with tabs between them, and one column of such lines.
use Rattle.std.specs.Prelude.{◌≡◌, ◌⊎◌, ℕ, ◌+◌, ◌<◌, ◌==◌, Bool, true, List, [], ◌∷◌, ◌++◌, if◌then◌else◌, Option, Some, None}
use Rattle.std.specs.List.{count_by}
use Rattle.uriparse_text.specs.Cuts.{lacks}
use Rattle.uri_commands.specs.declared.lines.Outcome.{Outcome}
use Rattle.uri_commands.specs.declared.lines.Outcome.TheVariants.{Rejected}

-- the byte that stands between fields
abbrev pub tab : ℕ
tab = 9

abbrev pub is_tab : ℕ → Bool
is_tab b = b == tab

-- how many tabs the text has
abbrev pub tabs : List ℕ → ℕ
tabs t = count_by is_tab t

-- this many fields, each with the tab that ends it
pub record AreFields (n : ℕ) (t : List ℕ) : Type 0 where
  pub count : tabs t ≡ n
  pub ended : (t ≡ []) ⊎ ((u : List ℕ) × (t ≡ u ++ tab ∷ []))

-- nothing, or a tab and more
abbrev pub IsRest : List ℕ → Type 0
IsRest [] = Unit {0}
IsRest (b ∷ t) = b ≡ tab

-- the text has this many of the line's fields, those that follow the first ones
pub record IsCut (first width : ℕ) (line front text back : List ℕ) : Type 0 where
  pub whole : line ≡ front ++ (text ++ back)
  pub ahead : AreFields first front
  pub fields : tabs text + 1 ≡ width
  pub following : IsRest back

-- the line with the result in the place of the text, or after its last field
abbrev pub row : Bool → List ℕ → List ℕ → List ℕ → List ℕ → List ℕ
row appends front text back result =
    if appends then front ++ (text ++ (back ++ tab ∷ result)) else front ++ (result ++ back)

-- the text of the line that is read: the whole line, or fields that follow the first ones
abbrev pub IsRead : Option ℕ → ℕ → List ℕ → List ℕ → List ℕ → List ℕ → Type 0
IsRead None width line front text back = (front ≡ []) × (text ≡ line) × (back ≡ [])
IsRead (Some first) width line front text back = IsCut first width line front text back

-- the line has too few fields
abbrev pub LacksFields : Option ℕ → ℕ → List ℕ → Type 0
LacksFields None width line = ⊥
LacksFields (Some first) width line = tabs line + 1 < first + width

-- What goes out for a line, without the byte that ends lines: the line with a result in place, which has no such byte and
-- which the text gives, and with all its other fields as they are; or the line itself, if it has too few, which is rejected.
pub data IsRow (Gives : List ℕ → List ℕ → Outcome → Type 0) (end : ℕ) (first : Option ℕ) (width : ℕ) (appends : Bool) (line out : List ℕ) (outcome : Outcome) : Type 0 where
  done : (front text back result : List ℕ) → IsRead first width line front text back → Gives text result outcome → lacks end result ≡ true
      → out ≡ row appends front text back result → IsRow Gives end first width appends line out outcome
  short : LacksFields first width line → out ≡ line → outcome ≡ Rejected → IsRow Gives end first width appends line out outcome
