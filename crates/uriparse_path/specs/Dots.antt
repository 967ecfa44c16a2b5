-- Dot segments and their removal from a text: RFC 3986, sections 3.3 and 5.2.4.
use Rattle.std.specs.Prelude.{◌≡◌, ℕ, ◌<◌, Bool, true, false, ◌||◌, not, if◌then◌else◌, List, [], ◌∷◌, ◌++◌, length}
use Rattle.std.specs.List.{list_all, list_any}
use Rattle.uriparse_text.specs.Bytes.{slash}
unfoldable pub use Rattle.uriparse_text.specs.Segment.{is_single_dot, is_double_dot}
pub use Rattle.uriparse_text.specs.Segment.{is_dot_segment}
use Rattle.uriparse_path.specs.Path.{PathParts, text, is_slash, spelled}

-- one of these is a dot segment
abbrev pub has_dot_segment : List (List ℕ) → Bool
has_dot_segment ss = list_any is_dot_segment ss

-- ---- the rewriting of section 5.2.4, as a relation

-- a text without slashes
abbrev pub LacksSlash : List ℕ → Type 0
LacksSlash s = list_all (λ b. not (is_slash b)) s ≡ true

-- what may follow a whole segment: nothing, or a slash and more
abbrev pub IsRest : List ℕ → Type 0
IsRest [] = Unit {0}
IsRest (b ∷ t) = b ≡ slash

-- the same rest, or a slash if it is empty
abbrev pub slashed : List ℕ → List ℕ
slashed [] = slash ∷ []
slashed (b ∷ t) = b ∷ t

-- the text without its last segment and the slash that precedes it, if any
abbrev pub without_last : List ℕ → List ℕ
without_last [] = []
without_last (b ∷ t) = if list_any is_slash t then b ∷ without_last t else []

-- One step leads from the input i and the output o to the input j and the output p. The letters are the RFC's.
pub data Step (i o j p : List ℕ) : Type 0 where
  -- A: "../" or "./" begins the input, and is removed
  drops : (d : List ℕ) → is_dot_segment d ≡ true → i ≡ d ++ slash ∷ j → p ≡ o → Step i o j p
  -- B: "/./" begins the input, or "/." is all of it: this becomes "/"
  stays : (d rest : List ℕ) → is_single_dot d ≡ true → IsRest rest → i ≡ slash ∷ (d ++ rest) → j ≡ slashed rest → p ≡ o → Step i o j p
  -- C: "/../" begins the input, or "/.." is all of it: this becomes "/", and the output loses its last segment
  double_dots : (d rest : List ℕ) → is_double_dot d ≡ true → IsRest rest → i ≡ slash ∷ (d ++ rest) → j ≡ slashed rest → p ≡ without_last o → Step i o j p
  -- D: "." or ".." is all of the input, and is removed
  ends : is_dot_segment i ≡ true → j ≡ [] → p ≡ o → Step i o j p
  -- E: otherwise the first segment moves to the output; here one that no slash precedes,
  begins : (s : List ℕ) → LacksSlash s → 0 < length s → is_dot_segment s ≡ false → IsRest j → i ≡ s ++ j → p ≡ o ++ s → Step i o j p
  -- and here one with the slash that precedes it
  moves : (s : List ℕ) → LacksSlash s → is_dot_segment s ≡ false → IsRest j → i ≡ slash ∷ (s ++ j) → p ≡ o ++ slash ∷ s → Step i o j p

-- Steps lead from this input and this output to the output u, when the input is used up.
pub data Reaches (u : List ℕ) : List ℕ → List ℕ → Type 0 where
  done : Reaches u [] u
  more : {i o j p : List ℕ} → Step i o j p → Reaches u j p → Reaches u i o

-- the text u is the text t without its dot segments
abbrev pub Undots : List ℕ → List ℕ → Type 0
Undots t u = Reaches u t []

-- ---- the same as a function, segment by segment

abbrev pub all_but_last : List (List ℕ) → List (List ℕ)
all_but_last [] = []
all_but_last (s ∷ []) = []
all_but_last (s ∷ r ∷ ss) = s ∷ all_but_last (r ∷ ss)

-- The segments, replayed on a stack whose top is its last one: "." is skipped, ".." removes the top, any other is
-- pushed; a dot segment at the end leaves an empty one.
abbrev pub replay : List (List ℕ) → List (List ℕ) → List (List ℕ)
replay out [] = out
replay out (s ∷ []) =
    if is_single_dot s then out ++ [] ∷ []
    else if is_double_dot s then all_but_last out ++ [] ∷ []
    else out ++ s ∷ []
replay out (s ∷ r ∷ ss) =
    if is_single_dot s then replay out (r ∷ ss)
    else if is_double_dot s then replay (all_but_last out) (r ∷ ss)
    else replay (out ++ s ∷ []) (r ∷ ss)

-- the stack has one segment
abbrev pub is_one : List (List ℕ) → Bool
is_one [] = false
is_one (s ∷ []) = true
is_one (s ∷ r ∷ ss) = false

-- Whether a slash precedes the replayed segments: one did before, or the first segment, which none preceded,
-- is removed again, so that the slash after it is left.
abbrev pub rooted_after : Bool → List (List ℕ) → List (List ℕ) → Bool
rooted_after rooted out [] = rooted
rooted_after rooted out (s ∷ ss) =
    if is_single_dot s then rooted_after rooted out ss
    else if is_double_dot s then rooted_after (rooted || is_one out) (all_but_last out) ss
    else rooted_after rooted (out ++ s ∷ []) ss

abbrev pub replayed : PathParts → PathParts
replayed p = record { absolute = rooted_after p.absolute [] p.segments; segments = replay [] p.segments }

-- the text without its dot segments
unfoldable pub undot : List ℕ → List ℕ
undot t = text (replayed (spelled t))

-- the path without its dot segments; one that has none is unchanged
abbrev pub without_dots : PathParts → PathParts
without_dots p = if has_dot_segment p.segments then spelled (undot (text p)) else p
