-- Counts of segments, for dot removal and normal forms. A path keeps these numbers.
use Rattle.std.specs.Prelude.{◌≡◌, ℕ, ◌<◌, ◌≤◌, Bool, true, false, not, ◌==◌, List, [], ◌∷◌, length}
use Rattle.std.specs.List.{count_by, prefix_len}
use Rattle.uriparse_text.specs.Bytes.{dot}
use Rattle.uriparse_path.specs.declared.path.counts.Counts.{Counts}
use Rattle.uriparse_path.specs.Path.{max_segments}
use Rattle.uriparse_path.specs.Dots.{is_single_dot, is_double_dot}
use Rattle.uriparse_path.specs.Normal.{is_canonical}

abbrev pub begins_with_dot : List ℕ → Bool
begins_with_dot [] = false
begins_with_dot (b ∷ s) = b == dot

abbrev pub is_non_canonical : List ℕ → Bool
is_non_canonical s = not (is_canonical s)

-- the "." segments, the ".." segments, the ".." segments before any other, and the segments that are not canonical
unfoldable pub counts : List (List ℕ) → Counts
counts ss = record {
  single = count_by is_single_dot ss;
  double = count_by is_double_dot ss;
  leading = prefix_len is_double_dot ss;
  non_canonical = count_by is_non_canonical ss;
}

-- from one segment to the maximum; the counts that are kept are the list's, if they are known
pub record CountsAreRight {X : Type 0} (counts : List X → Counts) (segments : List X) (known : Bool) (kept : Counts) : Type 0 where
  pub some : 0 < length segments
  pub short : length segments ≤ max_segments
  pub right : known ≡ true → kept ≡ counts segments
