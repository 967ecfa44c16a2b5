-- Paths within the directory of another path: RFC 3986, sections 3.3 and 6.2.2.
use Rattle.std.specs.Prelude.{◌≡◌, ℕ, zero, suc, ◌<◌, ◌≤◌, Bool, true, false, ◌||◌, if◌then◌else◌, List, [], ◌∷◌, ◌++◌, length, map, Option, Some, None, bytes_eq}
use Rattle.std.specs.List.{list_any}
use Rattle.uriparse_text.specs.Ambiguous.{is_ambiguous, name_of}
use Rattle.uriparse_text.specs.Canonical.{canonical}
use Rattle.uriparse_path.specs.Path.{PathParts, max_segments}
use Rattle.uriparse_path.specs.Dots.{all_but_last, is_dot_segment}
use Rattle.uriparse_path.specs.Remaining.{Remaining, nothing, process_all, remaining_of, with_end}
use Rattle.uriparse_path.specs.declared.path.within.PassedDots.{PassedDots}

-- a slash separates an empty text from the segments of an absolute path
abbrev pub led : Bool → List (List ℕ) → List (List ℕ)
led absolute ss = if absolute then [] ∷ ss else ss

-- what slashes separate in the text of a path
abbrev pub between_slashes : PathParts → List (List ℕ)
between_slashes p = led p.absolute p.segments

abbrev pub has_ambiguous : List (List ℕ) → Bool
has_ambiguous ss = list_any is_ambiguous ss

-- The one list begins with all of the other but the last, and more segments follow, none of which is ambiguous. Without a slash the other
-- list has nothing within it but itself.
pub record AreWithin (ss bs : List (List ℕ)) : Type 0 where
  pub rest : List (List ℕ)
  pub begins : ss ≡ all_but_last bs ++ rest
  pub some : 0 < length rest
  pub plain : has_ambiguous rest ≡ false
  pub alone : length bs ≡ 1 → ss ≡ bs

-- The path, in normal form, is in the directory of the base's path, in normal form.
abbrev pub IsPathWithin : PathParts → PathParts → Type 0
IsPathWithin p b = AreWithin (between_slashes p) (between_slashes b)

-- ---- segments that dot removal takes away with a ".."

-- A segment before others, of which as many ".." wait for a segment to remove. One that waits removes it, unless it is a dot segment.
abbrev pub onto_removed : List ℕ → ℕ → List (List ℕ) → List (List ℕ)
onto_removed s zero removed = removed
onto_removed s (suc n) removed = if is_dot_segment s then removed else s ∷ removed

-- those of these segments that a ".." removes, before others of which this is left
abbrev pub removed_from : Remaining → List (List ℕ) → List (List ℕ)
removed_from l [] = []
removed_from l (s ∷ ss) = onto_removed s (process_all ss l).double_dots (removed_from l ss)

-- those of these segments that a ".." removes
abbrev pub removed_segments : List (List ℕ) → List (List ℕ)
removed_segments ss = removed_from nothing ss

-- Readers disagree on whether the segment is one. It is ambiguous; or it is empty up to a first ";", "?" or "#", plain or escaped, so that it is
-- empty for those that drop what follows, and some merge the slashes around an empty segment.
abbrev pub is_unclear : List ℕ → Bool
is_unclear s = is_ambiguous s || bytes_eq (name_of s) []

-- a ".." in the path removes such a segment
abbrev pub removes_unclear : PathParts → Bool
removes_unclear p = list_any is_unclear (removed_segments (map canonical p.segments))

-- ---- a path that is read from its end: words of private functions' clauses alone

-- what is left of a path's segments, and then an empty one if it ends in a dot segment; before them a slash, if there is one
abbrev pub normal_left : Bool → Bool → Option (List (List ℕ)) → List (List ℕ)
normal_left absolute ended None = []
normal_left absolute ended (Some ss) = led (absolute || (remaining_of ss).removed) (with_end ended (remaining_of ss).kept)

-- what is left of segments so far, by the dot segments that wait and what is kept
abbrev pub remaining_after : PassedDots → List (List ℕ) → Remaining
remaining_after w kept = record { double_dots = w.double_dots; kept = kept; removed = w.removed }

-- the last segment that is kept, and those before it
pub record EndsWithKept (ss front : List (List ℕ)) (last : List ℕ) : Type 0 where
  pub kept : (remaining_of ss).kept ≡ (remaining_of front).kept ++ last ∷ []
  pub removed : (remaining_of ss).removed ≡ (remaining_of front).removed
  pub shorter : length front < length ss

-- no segment is kept
abbrev pub KeepsNone : List (List ℕ) → Bool → Type 0
KeepsNone ss removed = ((remaining_of ss).kept ≡ []) × ((remaining_of ss).removed ≡ removed)

-- there are no more segments than a path has
abbrev pub AreFew : Option (List (List ℕ)) → Type 0
AreFew None = Unit {0}
AreFew (Some ss) = length ss ≤ max_segments

-- the last segments, this many, are not ambiguous, and these precede them
abbrev pub Skips : ℕ → List (List ℕ) → List (List ℕ) → Type 0
Skips n all front = (rest : List (List ℕ)) × (all ≡ front ++ rest) × (length rest ≡ n) × (has_ambiguous (map canonical rest) ≡ false)

-- one of the last segments, this many, is ambiguous
abbrev pub MeetsAmbiguous : ℕ → List (List ℕ) → Type 0
MeetsAmbiguous n all = (front rest : List (List ℕ)) → all ≡ front ++ rest → length rest ≡ n → has_ambiguous (map canonical rest) ≡ true

-- the one list begins with the other, and more segments follow, none of which is ambiguous
pub record HasDirectory (ss ds : List (List ℕ)) : Type 0 where
  pub rest : List (List ℕ)
  pub begins : ss ≡ ds ++ rest
  pub some : 0 < length rest
  pub plain : has_ambiguous rest ≡ false
