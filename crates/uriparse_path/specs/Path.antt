-- A path, its text, and the path that a text spells: RFC 3986, sections 3.3 and 5.3.
use Rattle.std.specs.Prelude.{◌≡◌, ℕ, ◌<◌, ◌≤◌, Bool, true, false, ◌==◌, if◌then◌else◌, List, [], ◌∷◌, ◌++◌, length, drop, flat_map, not, ◌&&◌}
use Rattle.std.specs.Hash.{HashWrites, u8}
use Rattle.std.specs.List.{list_all, slice_split, join_with_byte, refill}
use Rattle.uriparse_text.specs.Bytes.{slash}
use Rattle.uriparse_text.specs.Canonical.{fed_bytes}
use Rattle.uriparse_text.specs.Segment.{is_segment}

-- whether a slash precedes the segments, and the segments, of any kind
pub record PartsOf (X : Type 0) : Type 0 where
  pub absolute : Bool
  pub segments : List X

abbrev pub PathParts : Type 0
PathParts = PartsOf (List ℕ)

-- the flag of a word
abbrev pub flag : ℕ → Bool
flag n = not (n == 0)

-- the maximum number of segments of a path
unfoldable pub max_segments : ℕ
max_segments = 1000000

-- from one segment to the maximum, each of a segment's tokens
pub record IsListed (segments : List (List ℕ)) : Type 0 where
  pub some : 0 < length segments
  pub short : length segments ≤ max_segments
  pub each : list_all is_segment segments ≡ true

-- from one segment to the maximum
pub record IsCounted {X : Type 0} (segments : List X) : Type 0 where
  pub some : 0 < length segments
  pub short : length segments ≤ max_segments

abbrev pub root : Bool → List ℕ
root absolute = if absolute then slash ∷ [] else []

-- a slash if the path is absolute, then the segments joined by slashes
abbrev pub text : PathParts → List ℕ
text p = root p.absolute ++ join_with_byte slash p.segments

abbrev pub is_slash : ℕ → Bool
is_slash b = b == slash

-- the text begins with a slash
abbrev pub is_rooted : List ℕ → Bool
is_rooted [] = false
is_rooted (b ∷ t) = is_slash b

-- the text without a leading slash
abbrev pub unrooted : List ℕ → List ℕ
unrooted [] = []
unrooted (b ∷ t) = if is_slash b then t else b ∷ t

-- the text split at each slash except a leading one
abbrev pub pieces : List ℕ → List (List ℕ)
pieces t = slice_split is_slash (unrooted t)

-- the path that a text spells
abbrev pub spelled : List ℕ → PathParts
spelled t = record { absolute = is_rooted t; segments = pieces t }

-- the first segment is empty and others follow, so that their text begins with a slash
abbrev pub starts_with_empty_segment : List (List ℕ) → Bool
starts_with_empty_segment ([] ∷ _ ∷ _) = true
starts_with_empty_segment _ = false

-- a relative path whose first segment is empty and has others after it: its text still begins with a slash
abbrev pub has_hidden_root : PathParts → Bool
has_hidden_root p = not p.absolute && starts_with_empty_segment p.segments

-- the path that the text of a path spells: the same one, except for a relative one whose text begins with a slash
abbrev pub respelled : PathParts → PathParts
respelled p = if has_hidden_root p then record { absolute = true; segments = drop 1 p.segments } else p

-- the text is a path's: it is split into at least one segment and at most the maximum
abbrev pub IsPath : List ℕ → Type 0
IsPath t = IsListed (pieces t)

-- the same path, made absolute
abbrev pub made_absolute : PathParts → PathParts
made_absolute p = record p { absolute = true }

-- the same path with these segments, as many as before
abbrev pub with_segments : {X : Type 0} → PartsOf X → List X → PartsOf X
with_segments p ss = record p { segments = refill (length p.segments) p.segments ss }

-- the text begins with two slashes
abbrev pub has_two_slashes : List ℕ → Bool
has_two_slashes t = is_rooted t && is_rooted (unrooted t)

-- what a hasher is fed for a piece between slashes: a slash, and its bytes
abbrev pub fed_piece : List ℕ → HashWrites
fed_piece s = u8 slash ++ fed_bytes s

-- what a hasher is fed for the canonical spelling of a path's text: each piece, then 0xFF, which no spelling has
unfoldable pub fed : List ℕ → HashWrites
fed t = flat_map fed_piece (slice_split is_slash t) ++ u8 255
