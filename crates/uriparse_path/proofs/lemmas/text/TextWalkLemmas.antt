-- The text of a path, walked piece by piece.
use Rattle.std.proofs.Common.{◌≡◌, ℕ, ◌<◌, Bool, true, false, cond, List, [], ◌∷◌, ◌++◌, Option, Some, fold, flat_map, length, refl, sym, ap, ◌∙◌, arith}
use Rattle.std.specs.List.{list_all, slice_split, onto_first, join_with_byte}
use Rattle.std.specs.Hash.{HashWrites}
use Rattle.std.proofs.lemmas.Bool.{and_parts, and_from}
use Rattle.std.proofs.lemmas.Grind.{fold-append}
use Rattle.std.proofs.lemmas.List.Folds.{list_all-append}
use Rattle.std.proofs.lemmas.List.Splits.{slice_split-cons_no}
use Rattle.uriparse_text.specs.declared.internal.class.Class.TheVariants.{Segment}
use Rattle.uriparse_text.specs.declared.internal.token.Token.TheVariants.{Byte}
use Rattle.uriparse_text.specs.Bytes.{slash}
use Rattle.uriparse_text.specs.Canonical.{canonical}
use Rattle.uriparse_text.specs.Cuts.{up_to, from_first, part}
use Rattle.uriparse_text.specs.Tokens.{tokens, is_token, is_well_formed}
use Rattle.uriparse_text.proofs.lemmas.classes.ClassLemmas.{well_formed-in_class}
use Rattle.uriparse_text.proofs.lemmas.tokens.TokenLemmas.{tokens-mark}
use Rattle.uriparse_text.specs.Segment.{is_segment}
use Rattle.uriparse_path.specs.Path.{IsPath, is_slash, fed, fed_piece}
use Rattle.uriparse_path.specs.Text.{pieces_left}
use Rattle.uriparse_text.proofs.lemmas.canonical.DotLemmas.{empty_segment}
use Rattle.uriparse_path.proofs.lemmas.text.HashLemmas.{feeds_path}
use Rattle.uriparse_path.proofs.lemmas.text.SplitLemmas.{cut, pieces-slash, joined-pieces, joined-following}

-- the first piece of a text, and those of what follows the slash after it
pub pieces_cut : (t : List ℕ) → slice_split is_slash t ≡ up_to is_slash t ∷ pieces_left (part (from_first is_slash t))
pieces_cut [] = refl
pieces_cut (b ∷ t) = at_byte (is_slash b) refl (pieces_cut t)
  where
    at_byte : (v : Bool) → is_slash b ≡ v → slice_split is_slash t ≡ up_to is_slash t ∷ pieces_left (part (from_first is_slash t))
        → slice_split is_slash (b ∷ t) ≡ cond v [] (b ∷ up_to is_slash t) ∷ pieces_left (part (cond v (b ∷ t) (from_first is_slash t)))
    at_byte true e rest = pieces-slash b t e
    at_byte false e rest = slice_split-cons_no is_slash b t e ∙ ap (onto_first b) rest

pub left_cut : (t piece : List ℕ) (o : Option (List ℕ)) → piece ≡ up_to is_slash t → o ≡ part (from_first is_slash t)
    → pieces_left (Some t) ≡ piece ∷ pieces_left o
left_cut t piece o e k = pieces_cut t ∙ ap (λ u. u ∷ pieces_left (part (from_first is_slash t))) (sym e) ∙ ap (λ u. piece ∷ pieces_left u) (sym k)

-- one piece fewer is left after it
pub fewer_left : (t : List ℕ) (o : Option (List ℕ)) → o ≡ part (from_first is_slash t) → length (pieces_left o) < length (pieces_left (Some t))
fewer_left t o e =
    let here : length (pieces_left o) ≡ length (pieces_left (part (from_first is_slash t))) = ap (λ u. length (pieces_left u)) e in
    omega (arith, here, ap length (pieces_cut t))

-- each piece of a path's text is a segment, also an empty one before a leading slash
pub pieces_of_path : (t : List ℕ) → IsPath t → list_all is_segment (slice_split is_slash t) ≡ true
pieces_of_path [] is = is.each
pieces_of_path (b ∷ t) is = at_first (is_slash b) refl is.each
  where
    at_first : (v : Bool) → is_slash b ≡ v → list_all is_segment (slice_split is_slash (cond v t (b ∷ t))) ≡ true
        → list_all is_segment (slice_split is_slash (b ∷ t)) ≡ true
    at_first true e each = ap (list_all is_segment) (pieces-slash b t e) ∙ and_from _ _ empty_segment each
    at_first false e each = each

-- segments joined by slashes are a concatenation of tokens, and so is a path's text
formed_joined : (s : List ℕ) (ss : List (List ℕ)) → is_segment s ≡ true → list_all is_segment ss ≡ true
    → is_well_formed (join_with_byte slash (s ∷ ss)) ≡ true
formed_joined s [] h k = well_formed-in_class Segment s h
formed_joined s (r ∷ ss) h k =
    let both = and_parts _ _ k in
    let later = join_with_byte slash (r ∷ ss) in
    ap (list_all is_token) (tokens-mark slash refl refl s later)
    ∙ list_all-append is_token (tokens s) (Byte slash ∷ tokens later)
    ∙ and_from _ _ (well_formed-in_class Segment s h) (formed_joined r ss both.0 both.1)

pub formed_path : (t : List ℕ) → IsPath t → is_well_formed t ≡ true
formed_path t is =
    let c = cut t in
    let both = and_parts _ _ (ap (list_all is_segment) (sym c.pieces) ∙ pieces_of_path t is) in
    ap is_well_formed (sym (joined-pieces t) ∙ ap (join_with_byte slash) c.pieces) ∙ formed_joined c.first c.others both.0 both.1

-- ---- what the pieces feed a hasher

abbrev pub fed_each : List (List ℕ) → HashWrites
fed_each ss = flat_map (λ s. fed_piece (canonical s)) ss

-- one more piece is fed, then those that are left
pub fed_more : {S : Type 0} (write : S → List ℕ → S) (s r : S) (t piece : List ℕ) (o : Option (List ℕ)) → piece ≡ up_to is_slash t
    → o ≡ part (from_first is_slash t) → r ≡ fold write s (fed_piece (canonical piece))
    → fold write r (fed_each (pieces_left o)) ≡ fold write s (fed_each (pieces_left (Some t)))
fed_more write s r t piece o front following fed_here =
    ap (λ x. fold write x (fed_each (pieces_left o))) fed_here
    ∙ sym (fold-append write s (fed_piece (canonical piece)) (fed_each (pieces_left o)))
    ∙ ap (λ u. fold write s (fed_piece (canonical u) ++ fed_each (pieces_left o))) front
    ∙ ap (λ u. fold write s (fed_piece (canonical (up_to is_slash t)) ++ fed_each (pieces_left u))) following
    ∙ ap (λ ps. fold write s (fed_each ps)) (sym (pieces_cut t))

-- all pieces are fed, then the end
pub fed_whole : {S : Type 0} (write : S → List ℕ → S) (s r : S) (t : List ℕ) → IsPath t → r ≡ fold write s (fed_each (slice_split is_slash t))
    → write r (255 ∷ []) ≡ fold write s (fed (canonical t))
fed_whole write s r t is e =
    let c = cut t in
    let both = and_parts _ _ (ap (list_all is_segment) (sym c.pieces) ∙ pieces_of_path t is) in
    let whole : t ≡ c.first ++ flat_map (λ s. slash ∷ s) c.others =
    sym (joined-pieces t) ∙ ap (join_with_byte slash) c.pieces ∙ joined-following c.first c.others in
    sym (feeds_path write s t c.first c.others whole both.0 both.1
    ∙ ap (λ x. write x (255 ∷ [])) (sym (fold-append write s (fed_piece (canonical c.first)) (fed_each c.others))
    ∙ ap (λ ps. fold write s (fed_each ps)) (sym c.pieces) ∙ sym e))
