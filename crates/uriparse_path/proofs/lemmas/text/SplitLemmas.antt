-- How a text is split at its slashes.
use Rattle.std.proofs.Common.{◌≡◌, ℕ, ◌<◌, Bool, true, false, not, List, [], ◌∷◌, ◌++◌, length, flat_map, refl, sym, ap, ◌∙◌, arith, append-nil}
use Rattle.std.specs.List.{list_all, slice_split, onto_first, join_with_byte}
use Rattle.std.proofs.lemmas.Bool.{not-true, and_parts}
use Rattle.std.proofs.lemmas.List.Splits.{slice_split-cons_yes, slice_split-cons_no, join_with_byte-slice_split}
use Rattle.uriparse_text.specs.Bytes.{slash}
use Rattle.uriparse_path.specs.Path.{is_slash}
use Rattle.uriparse_path.specs.Dots.{LacksSlash}

-- a text's first piece, and the others
pub record IsCut (t : List ℕ) : Type 0 where
  pub first : List ℕ
  pub others : List (List ℕ)
  pub pieces : slice_split is_slash t ≡ first ∷ others

pub cut : (t : List ℕ) → IsCut t
cut [] = record { first = []; others = []; pieces = refl }
cut (b ∷ t) = at_byte (is_slash b) refl (cut t)
  where
    at_byte : (v : Bool) → is_slash b ≡ v → IsCut t → IsCut (b ∷ t)
    at_byte true e rest = record { first = []; others = slice_split is_slash t; pieces = slice_split-cons_yes is_slash b t e }
    at_byte false e rest = record {
      first = b ∷ rest.first;
      others = rest.others;
      pieces = slice_split-cons_no is_slash b t e ∙ ap (onto_first b) rest.pieces;
    }

pub some_pieces : (t : List ℕ) → 0 < length (slice_split is_slash t)
some_pieces t = let is = cut t in rw is.pieces (omega arith)

-- a byte that is no slash goes to the first piece
pub pieces-byte : (b : ℕ) (t : List ℕ) → is_slash b ≡ false → (is : IsCut t) → slice_split is_slash (b ∷ t) ≡ (b ∷ is.first) ∷ is.others
pieces-byte b t e is = slice_split-cons_no is_slash b t e ∙ ap (onto_first b) is.pieces

-- a slash ends the first piece
pub pieces-slash : (b : ℕ) (t : List ℕ) → is_slash b ≡ true → slice_split is_slash (b ∷ t) ≡ [] ∷ slice_split is_slash t
pieces-slash b t e = slice_split-cons_yes is_slash b t e

pub pieces-piece : (s : List ℕ) → LacksSlash s → slice_split is_slash s ≡ s ∷ []
pieces-piece [] h = refl
pieces-piece (b ∷ s) h =
    let both = and_parts _ _ h in
    slice_split-cons_no is_slash b s (not-true (is_slash b) both.0) ∙ ap (onto_first b) (pieces-piece s both.1)

pub pieces-front : (s t : List ℕ) → LacksSlash s → slice_split is_slash (s ++ slash ∷ t) ≡ s ∷ slice_split is_slash t
pieces-front [] t h = refl
pieces-front (b ∷ s) t h =
    let both = and_parts _ _ h in
    slice_split-cons_no is_slash b (s ++ slash ∷ t) (not-true (is_slash b) both.0) ∙ ap (onto_first b) (pieces-front s t both.1)

-- segments joined by slashes are split into themselves
pub pieces-joined : (s : List ℕ) (ss : List (List ℕ)) → LacksSlash s → list_all (λ r. list_all (λ b. not (is_slash b)) r) ss ≡ true
    → slice_split is_slash (join_with_byte slash (s ∷ ss)) ≡ s ∷ ss
pieces-joined s [] h k = pieces-piece s h
pieces-joined s (r ∷ ss) h k =
    let both = and_parts _ _ k in
    pieces-front s (join_with_byte slash (r ∷ ss)) h ∙ ap (λ x. s ∷ x) (pieces-joined r ss both.0 both.1)

-- the pieces of a text, joined, are the text
pub joined-pieces : (t : List ℕ) → join_with_byte slash (slice_split is_slash t) ≡ t
joined-pieces t = join_with_byte-slice_split slash t

-- all segments after slashes
pub joined-following : (s : List ℕ) (ss : List (List ℕ)) → join_with_byte slash (s ∷ ss) ≡ s ++ flat_map (λ r. slash ∷ r) ss
joined-following s [] = sym (append-nil s)
joined-following s (r ∷ ss) = ap (λ x. s ++ slash ∷ x) (joined-following r ss)

-- a text with one piece is that piece
pub one_piece : (t : List ℕ) → length (slice_split is_slash t) ≡ 1 → slice_split is_slash t ≡ t ∷ []
one_piece t h = only (slice_split is_slash t) h ∙ ap (λ s. s ∷ []) (joined-pieces t)
  where
    only : (ps : List (List ℕ)) → length ps ≡ 1 → ps ≡ join_with_byte slash ps ∷ []
    only [] h = absurd (omega (arith, h))
    only (s ∷ []) h = refl
    only (s ∷ r ∷ ps) h = absurd (omega (arith, h))
