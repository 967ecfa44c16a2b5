-- The pairs of a query: RFC 3986, section 3.4.
use Rattle.std.specs.Prelude.{◌≡◌, ℕ, Bool, ◌==◌, ◌-◌, ◌&&◌, not, if◌then◌else◌, false, List, [], ◌∷◌, ◌++◌, length, take, map, bytes_eq, codes, Option, Some, None, unwrap_or}
use Rattle.std.specs.Borrow.{Bor}
use Rattle.std.specs.Option.{option_map, option_copied}
use Rattle.std.specs.List.{ends_with, filter, list_any, slice_split, starts_with, join_with_byte}
use Rattle.std.specs.List.Retain.{IsFiltered}
use Rattle.std.specs.Cmp.Lexicographic.{slice_cmp}
use Rattle.std.specs.Ordering.{is_lt, nat_cmp}
use Rattle.uriparse_text.specs.declared.internal.class.Class.TheVariants.{Query}
use Rattle.uriparse_text.specs.Bytes.{ampersand, asterisk, equals_sign}
use Rattle.uriparse_text.specs.Cuts.{following, before, after}
use Rattle.uriparse_text.specs.Coding.{are_bytes, decoded, encoded_without, form_decoded}

-- a name, and a value if there is one
abbrev pub Pair : Type 0
Pair = List ℕ × Option (List ℕ)

-- ---- from a query to its pairs

abbrev pub is_ampersand : ℕ → Bool
is_ampersand b = b == ampersand

-- The first "=" of a piece ends the name, and the value follows it.
abbrev pub pair_of : List ℕ → Pair
pair_of piece = (before equals_sign piece, after equals_sign piece)

-- the pairs of the pieces between the "&"
abbrev pub pairs : List ℕ → List Pair
pairs q = map pair_of (slice_split is_ampersand q)

-- the same of what is left of a query, if anything is
abbrev pub pairs_left : Option (List ℕ) → List Pair
pairs_left None = []
pairs_left (Some q) = pairs q

-- ---- from pairs to a query

-- name [ "=" value ]
abbrev pub piece_of : Pair → List ℕ
piece_of p = p.0 ++ following equals_sign p.1

-- the pieces, with a "&" between each two
abbrev pub joined_pairs : List Pair → List ℕ
joined_pairs ps = join_with_byte ampersand (map piece_of ps)

-- ---- pairs that are left out

-- the answer of a test, called at any pair, is this function of the pair
abbrev pub AnswersBy : {F : Type 0} → (F → List ℕ → Option (List ℕ) → Bool → F → Type 0) → (Pair → Bool) → Type 0
AnswersBy {F} step is = (f g : F) (p : Pair) (b : Bool) → step f p.0 p.1 b g → b ≡ is p

-- A test, called at each pair in turn, returned false for those that are kept, and true for the others.
abbrev pub IsWithout : {F : Type 0} → (F → List ℕ → Option (List ℕ) → Bool → F → Type 0) → F → List Pair → List Pair → Type 0
IsWithout step test ps kept = IsFiltered (λ f p b g. step f p.0 p.1 (not b) g) test ps kept

-- ---- a pair that is set

-- the name of the pair stands for these bytes
abbrev pub is_named : List ℕ → Pair → Bool
is_named name p = bytes_eq (decoded p.0) name

-- the pairs of other names
abbrev pub without_name : List ℕ → List Pair → List Pair
without_name name ps = filter (λ p. not (is_named name p)) ps

-- one pair alone, the pair of an empty piece: an empty name without a value
abbrev pub is_empty_end : List Pair → Bool
is_empty_end [] = false
is_empty_end (p ∷ []) = bytes_eq (piece_of p) []
is_empty_end (p ∷ q ∷ ps) = false

-- the pairs without the pair of an empty piece at the end
abbrev pub without_empty_end : List Pair → List Pair
without_empty_end [] = []
without_empty_end (p ∷ ps) = if is_empty_end (p ∷ ps) then [] else p ∷ without_empty_end ps

-- The first pair of the name becomes this one, and the others of the name are left out; if there is none, it follows all others, in the place of an
-- empty piece at the end.
abbrev pub with_pair : List ℕ → Pair → List Pair → List Pair
with_pair name new [] = new ∷ []
with_pair name new (p ∷ ps) =
    if is_named name p then new ∷ without_name name ps else if is_empty_end (p ∷ ps) then new ∷ [] else p ∷ with_pair name new ps

-- ---- a pair that is appended

-- the pair follows all others, in the place of an empty piece at the end
abbrev pub with_appended : Pair → List Pair → List Pair
with_appended new ps = without_empty_end ps ++ new ∷ []

-- ---- pairs of several names

-- A pattern that ends in "*" stands for each name that begins with what precedes the "*", and any other one for itself: the bytes that both stand for
-- are compared.
abbrev pub stands_for : List ℕ → List ℕ → Bool
stands_for pattern name =
    if ends_with (λ b c. b == c) pattern (asterisk ∷ [])
    then starts_with (λ b c. b == c) (decoded name) (decoded (take (length pattern - 1) pattern))
    else bytes_eq (decoded pattern) (decoded name)

-- one of the pairs has a name that stands for the pair's
abbrev pub is_among_names : List Pair → Pair → Bool
is_among_names names p = list_any (λ n. stands_for n.0 p.0) names

-- the pairs of other names
abbrev pub without_names : List Pair → List Pair → List Pair
without_names names ps = filter (λ p. not (is_among_names names p)) ps

-- ---- pairs in the order of their names

-- the bytes that the first pair's name stands for are less than the second's: byte by byte, and a prefix is less
abbrev pub has_less_name : Pair → Pair → Bool
has_less_name p q = is_lt (slice_cmp nat_cmp (decoded p.0) (decoded q.0))

-- the pair before the first one whose name is not less
abbrev pub insert_pair : Pair → List Pair → List Pair
insert_pair p [] = p ∷ []
insert_pair p (q ∷ qs) = if has_less_name q p then q ∷ insert_pair p qs else p ∷ q ∷ qs

-- the pairs in the order of their names, the pairs of one name in the order that they had
abbrev pub sorted_pairs : List Pair → List Pair
sorted_pairs [] = []
sorted_pairs (p ∷ ps) = insert_pair p (sorted_pairs ps)

-- ---- what the texts stand for

-- the bytes that the name and the value stand for
abbrev pub decoded_pair : Pair → Pair
decoded_pair p = (decoded p.0, option_map decoded p.1)

-- the same if they are a form's
abbrev pub form_decoded_pair : Pair → Pair
form_decoded_pair p = (form_decoded p.0, option_map form_decoded p.1)

-- The text that stands for the bytes of a name or a value. A "+" is escaped, since forms read it as a space, and a "*", since at the end of a
-- name to leave out it stands for any bytes.
abbrev pub encoded_in_pair : List ℕ → List ℕ
encoded_in_pair bytes = encoded_without Query (codes "&=+*") bytes

abbrev pub encoded_pair : Pair → Pair
encoded_pair p = (encoded_in_pair p.0, option_map encoded_in_pair p.1)

-- each is a byte: a word of private functions' clauses alone
abbrev pub are_pair_bytes : Pair → Bool
are_pair_bytes p = are_bytes p.0 && are_bytes (unwrap_or p.1 [])

-- the bytes of a pair that is given by its slices
abbrev pub given : Bor (List ℕ) × Option (Bor (List ℕ)) → Pair
given p = (p.0.now, option_copied p.1)
