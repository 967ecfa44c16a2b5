-- The normal form of a relative path's segments. Dots may be escaped.
use Rattle.std.specs.Prelude.{◌≡◌, ℕ, Bool, true, false, ◌==◌, ◌&&◌, ◌||◌, not, if◌then◌else◌, List, [], ◌∷◌, ◌++◌, map, reverse}
use Rattle.std.specs.List.{list_any}
use Rattle.uriparse_text.specs.Bytes.{dot, colon}
use Rattle.uriparse_text.specs.Canonical.{canonical}
use Rattle.uriparse_path.specs.Path.{starts_with_empty_segment}
use Rattle.uriparse_path.specs.Dots.{is_single_dot, is_double_dot, is_dot_segment}

-- ---- deletions, as a relation

-- One deletion leads from a list to a list.
pub data Deletes (l m : List (List ℕ)) : Type 0 where
  -- a "." is deleted
  single : (before after : List (List ℕ)) (d : List ℕ) → is_single_dot d ≡ true → l ≡ before ++ d ∷ after → m ≡ before ++ after → Deletes l m
  -- a segment that is no dot segment is deleted with the ".." right after it
  pair : (before after : List (List ℕ)) (s d : List ℕ) → is_dot_segment s ≡ false → is_double_dot d ≡ true → l ≡ before ++ s ∷ d ∷ after → m ≡ before ++ after
      → Deletes l m

-- Deletions lead from this list to the list m.
pub data Leads (m : List (List ℕ)) : List (List ℕ) → Type 0 where
  done : Leads m m
  more : {l k : List (List ℕ)} → Deletes l k → Leads m k → Leads m l

abbrev pub IsIrreducible : List (List ℕ) → Type 0
IsIrreducible l = (m : List (List ℕ)) → Deletes l m → ⊥

-- ---- the end and the front

-- the last segment passes
abbrev pub is_last : (List ℕ → Bool) → List (List ℕ) → Bool
is_last p [] = false
is_last p (s ∷ []) = p s
is_last p (s ∷ r ∷ ss) = is_last p (r ∷ ss)

-- the first segment passes
abbrev pub is_first : (List ℕ → Bool) → List (List ℕ) → Bool
is_first p [] = false
is_first p (s ∷ ss) = p s

-- an empty segment after those that are left, if a dot segment was last; none if nothing is left or a ".." is still last
abbrev pub closed : Bool → List (List ℕ) → List (List ℕ)
closed ended_in_dots [] = []
closed ended_in_dots (s ∷ ss) =
    if ended_in_dots && not (is_last is_double_dot (s ∷ ss)) then (s ∷ ss) ++ [] ∷ [] else s ∷ ss

abbrev pub has_colon : List ℕ → Bool
has_colon s = list_any (λ b. b == colon) s

-- a leading "." is needed: an empty segment with others after it comes first, or one with a colon if the old first one had none
abbrev pub needs_leading_dot : List (List ℕ) → List (List ℕ) → Bool
needs_leading_dot old new = starts_with_empty_segment new || (is_first has_colon new && not (is_first has_colon old))

-- a leading ".", if one is needed
abbrev pub with_leading_dot : List (List ℕ) → List (List ℕ) → List (List ℕ)
with_leading_dot old new = if needs_leading_dot old new then (dot ∷ []) ∷ new else new

-- the empty path has one empty segment
abbrev pub filled : List (List ℕ) → List (List ℕ)
filled [] = [] ∷ []
filled (s ∷ ss) = s ∷ ss

-- what is left of the old segments, with that end and that front
abbrev pub ended : List (List ℕ) → List (List ℕ) → List (List ℕ)
ended old new = filled (with_leading_dot old (closed (is_last is_dot_segment old) new))

-- the same, each in canonical spelling
abbrev pub finished : List (List ℕ) → List (List ℕ) → List (List ℕ)
finished old new = map canonical (ended old new)

-- n is the normal form of the relative path's segments l
pub record IsRelNormal (l n : List (List ℕ)) : Type 0 where
  pub left : List (List ℕ)
  pub leads : Leads left l
  pub irreducible : IsIrreducible left
  pub finished : n ≡ finished l left

-- ---- the same as functions

-- the segment put on a stack whose top is its first one, with the deletion that it brings
abbrev pub put : List (List ℕ) → List ℕ → List (List ℕ)
put [] s = if is_single_dot s then [] else s ∷ []
put (t ∷ stack) s =
    if is_single_dot s then t ∷ stack
    else if is_double_dot s && not (is_dot_segment t) then stack
    else s ∷ t ∷ stack

abbrev pub put_all : List (List ℕ) → List (List ℕ) → List (List ℕ)
put_all stack [] = stack
put_all stack (s ∷ ss) = put_all (put stack s) ss

-- what deletions leave of a list
abbrev pub reduced : List (List ℕ) → List (List ℕ)
reduced l = reverse (put_all [] l)

unfoldable pub relative_normal : List (List ℕ) → List (List ℕ)
relative_normal l = finished l (reduced l)
