-- What is left of a path's segments when they are read from the last one on, and its text in a buffer.
use Rattle.std.specs.Prelude.{◌≡◌, ℕ, zero, suc, Bool, true, false, not, ◌&&◌, ◌||◌, if◌then◌else◌, List, [], ◌∷◌, ◌++◌, map}
use Rattle.std.specs.List.{join_with_byte}
use Rattle.uriparse_text.specs.declared.internal.token.Case.TheVariants.{Kept}
use Rattle.uriparse_text.specs.declared.internal.backward_buffer.Form.{Form}
use Rattle.uriparse_text.specs.declared.internal.backward_buffer.Form.TheVariants.{Canonical}
use Rattle.uriparse_text.specs.Bytes.{dot, slash}
use Rattle.uriparse_text.specs.Ends.{EndsWith, formed}
use Rattle.uriparse_path.specs.declared.path.text.backward.Placed.{Placed}
use Rattle.uriparse_path.specs.declared.path.text.backward.BackwardState.{BackwardState}
use Rattle.uriparse_path.specs.Path.{is_rooted, is_slash, has_two_slashes, root, spelled, text}
use Rattle.uriparse_path.specs.Edits.{with_dot_prefix_unless}
use Rattle.uriparse_path.specs.Dots.{is_single_dot, is_double_dot}
use Rattle.uriparse_path.specs.Relative.{is_first, has_colon}

-- ---- lists

-- the ".." that found no segment, the segments that are kept, and whether the first one that is no dot segment is removed
pub record Remaining : Type 0 where
  pub double_dots : ℕ
  pub kept : List (List ℕ)
  pub removed : Bool

abbrev pub nothing : Remaining
nothing = record { double_dots = 0; kept = []; removed = false }

-- a segment that is no dot segment, before as many waiting ".."
abbrev pub process_plain : List ℕ → ℕ → Remaining → Remaining
process_plain s zero l = record { double_dots = 0; kept = s ∷ l.kept; removed = false }
process_plain s (suc n) l = record { double_dots = n; kept = l.kept; removed = true }

-- one segment more at the front
abbrev pub process_one : List ℕ → Remaining → Remaining
process_one s l =
    if is_single_dot s then l
    else if is_double_dot s then record { double_dots = suc l.double_dots; kept = l.kept; removed = l.removed }
    else process_plain s l.double_dots l

abbrev pub process_all : List (List ℕ) → Remaining → Remaining
process_all [] l = l
process_all (s ∷ ss) l = process_one s (process_all ss l)

-- what is left of these segments
abbrev pub remaining_of : List (List ℕ) → Remaining
remaining_of ss = process_all ss nothing

-- the segments that are kept, and an empty one after a last dot segment
abbrev pub with_end : Bool → List (List ℕ) → List (List ℕ)
with_end ended kept = if ended then kept ++ [] ∷ [] else kept

-- their text
abbrev pub remaining_text : Form → Bool → List (List ℕ) → List ℕ
remaining_text form ended kept = join_with_byte slash (map (formed form Kept) (with_end ended kept))

-- there is a segment
abbrev pub is_more : List (List ℕ) → Bool
is_more [] = false
is_more (s ∷ ss) = true

-- as many "../" before a text
abbrev pub with_parent_steps : ℕ → List ℕ → List ℕ
with_parent_steps zero t = t
with_parent_steps (suc n) t = dot ∷ dot ∷ slash ∷ with_parent_steps n t

-- as many "..", with slashes between them and before a text that follows
abbrev pub climbed : ℕ → Bool → List ℕ → List ℕ
climbed n true t = with_parent_steps n t
climbed zero false t = t
climbed (suc n) false t = with_parent_steps n (dot ∷ dot ∷ t)

-- the same, or without a ".." "./" if it is needed
abbrev pub with_double_dots : ℕ → Bool → Bool → List ℕ → List ℕ
with_double_dots zero more with_leading_dot t = if with_leading_dot then dot ∷ slash ∷ t else t
with_double_dots (suc n) true with_leading_dot t = with_parent_steps (suc n) t
with_double_dots (suc n) false with_leading_dot t = with_parent_steps n (dot ∷ dot ∷ t)

-- the text of what is left if it stays relative: after the ".." that found no segment, or after "./" if it would be read as another path
abbrev pub relative_text : Bool → Bool → Remaining → List ℕ
relative_text had_colon ended l =
    let t = remaining_text Canonical ended l.kept in
    with_double_dots l.double_dots (is_more l.kept) (is_rooted t || (is_first has_colon l.kept && not had_colon)) t

-- The text of a path with what is left after its root, which it had or which the removal of its first segment uncovered. Without an authority it
-- does not begin with two slashes.
abbrev pub rooted_text : Bool → Bool → Form → Bool → Remaining → List ℕ
rooted_text has_authority rooted form ended l =
    text (with_dot_prefix_unless has_authority (spelled (root (rooted || l.removed) ++ remaining_text form ended l.kept)))

-- ---- buffers

-- the text begins with two slashes before one that begins with a slash, or with two, if the flags say so
abbrev pub is_twice : List ℕ → Bool → Bool → Bool
is_twice [] rooted twice = twice
is_twice (b ∷ s) rooted twice = is_slash b && is_rooted (s ++ root rooted)

-- the text u is at the end of the buffer, before the text t
pub record IsPlaced (p : Placed) (buffer u t : List ℕ) : Type 0 where
  pub rooted : p.rooted ≡ is_rooted u
  pub twice : p.twice ≡ has_two_slashes u
  pub ends : EndsWith buffer p.len (u ++ t)

-- the text of what is left is there
pub record IsBackwardState (form : Form) (ended : Bool) (l : Remaining) (e : BackwardState) (buffer t : List ℕ) : Type 0 where
  pub double_dots : e.double_dots ≡ l.double_dots
  pub removed : e.removed ≡ l.removed
  pub kept : e.kept ≡ is_more l.kept
  pub colon : e.colon ≡ is_first has_colon l.kept
  pub placed : IsPlaced e.text buffer (remaining_text form ended l.kept) t

-- One segment more leads from this state to that one, in any buffer.
abbrev pub ProcessesOne : List ℕ → BackwardState → BackwardState → Type 0
ProcessesOne s old new =
    (form : Form) (ended : Bool) (l : Remaining) (buffer t : List ℕ) → IsBackwardState form ended l old buffer t
    → IsBackwardState form ended (process_one s l) new buffer t

-- These segments more lead from a state and its buffer to a state and its buffer.
abbrev pub ProcessesAll : Form → Bool → List (List ℕ) → BackwardState → List ℕ → BackwardState → List ℕ → Type 0
ProcessesAll form ended ss old buffer new filled =
    (l : Remaining) (t : List ℕ) → IsBackwardState form ended l old buffer t → IsBackwardState form ended (process_all ss l) new filled t

-- The text that this state has in a buffer is, after its root, at the end of that buffer.
abbrev pub PutsRootPrefix : Bool → Bool → BackwardState → List ℕ → ℕ → List ℕ → Type 0
PutsRootPrefix has_authority rooted state buffer len filled =
    (form : Form) (ended : Bool) (l : Remaining) (t : List ℕ) → IsBackwardState form ended l state buffer t
    → EndsWith filled len (rooted_text has_authority rooted form ended l ++ t)
