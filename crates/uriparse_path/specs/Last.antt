-- The last dot segment of a path's text.
use Rattle.std.specs.Prelude.{◌≡◌, ℕ, zero, suc, ◌<◌, ◌≤◌, ◌+◌, ◌-◌, ◌==◌, ◌||◌, ◌&&◌, if◌then◌else◌, Bool, true, false, List, [], ◌∷◌, Option, MatchOption, drop, slice_index, length}
use Rattle.std.specs.List.{slice_split}
use Rattle.std.specs.Int.{bit_at}
use Rattle.uriparse_text.specs.Bytes.{dot, percent}
use Rattle.uriparse_path.specs.Path.{is_slash}
use Rattle.uriparse_path.specs.Dots.{has_dot_segment, is_dot_segment}
use Rattle.uriparse_path.specs.Relative.{is_first}

-- a byte that a dot segment begins with
abbrev pub may_begin_dot_segment : ℕ → Bool
may_begin_dot_segment b = b == dot || b == percent || b == percent

abbrev pub begins_with_dot_candidate : List ℕ → Bool
begins_with_dot_candidate [] = false
begins_with_dot_candidate (b ∷ t) = may_begin_dot_segment b

-- a segment begins at this place
abbrev pub begins_segment : ℕ → List ℕ → Bool
begins_segment zero t = true
begins_segment (suc at) t = is_slash (slice_index t at)

-- none of the segments that begin after this place is a dot segment
abbrev pub LacksDotsAfter : ℕ → List ℕ → Type 0
LacksDotsAfter at t = has_dot_segment (drop 1 (slice_split is_slash (drop at t))) ≡ false

-- of this many places from one on, those that follow a slash and hold a byte that a dot segment begins with have a mark
abbrev pub AreHeadMarks : List ℕ → ℕ → ℕ → ℕ → Type 0
AreHeadMarks t at n marks =
    (k : ℕ) → k < n → bit_at marks k ≡ (if is_slash (slice_index t (at - 1 + k)) && may_begin_dot_segment (slice_index t (at + k)) then 1 else 0)

-- the last dot segment begins at this place
pub record IsLastDots (at : ℕ) (t : List ℕ) : Type 0 where
  pub within : at ≤ length t
  pub begins : begins_segment at t ≡ true
  pub dots : is_first is_dot_segment (slice_split is_slash (drop at t)) ≡ true
  pub later : LacksDotsAfter at t

-- this is the place of the last dot segment, if there is one
abbrev pub IsLast : Option ℕ → List ℕ → Type 0
IsLast last t = MatchOption last (has_dot_segment (slice_split is_slash t) ≡ false) (λ at. IsLastDots at t)
