-- What is left of a path after a segment.
use Rattle.std.proofs.Common.{◌≡◌, ℕ, ◌+◌, ◌≤◌, Bool, true, false, ◌&&◌, cond, List, [], ◌∷◌, length, drop, refl, sym, ap, ◌∙◌, arith}
use Rattle.std.specs.Prelude.{◌==◌}
use Rattle.std.specs.List.{slice_split}
use Rattle.std.proofs.lemmas.Bool.{and_parts, eqb-true}
use Rattle.uriparse_text.specs.Bytes.{slash}
use Rattle.uriparse_text.specs.Cuts.{after, before}
use Rattle.uriparse_text.proofs.lemmas.readings.CutLemmas.{before_after}
use Rattle.uriparse_path.specs.Path.{is_rooted, is_slash, pieces}
use Rattle.uriparse_path.specs.Text.{pieces_left}
use Rattle.uriparse_path.proofs.lemmas.text.TextWalkLemmas.{pieces_cut}
use Rattle.uriparse_ffi.specs.Pairs.{left_from}
use Rattle.uriparse_ffi.specs.Segments.{segment_begin, segments_left}
use Rattle.uriparse_ffi.proofs.lemmas.PairLemmas.{after_is, left_some, left_twice}

not_zero : (n : ℕ) → (n + 1 == 0) ≡ false
not_zero n = by_test (n + 1 == 0) refl
  where
    by_test : (v : Bool) → (n + 1 == 0) ≡ v → v ≡ false
    by_test true e = let zero : n + 1 ≡ 0 = eqb-true (n + 1) 0 e in absurd (omega (arith, zero))
    by_test false e = refl

-- the pieces of a path are those of the text after its leading slash
at_start : (h : List ℕ) → pieces h ≡ slice_split is_slash (drop (cond (is_rooted h) 1 0) h)
at_start [] = refl
at_start (b ∷ t) = at_first (is_slash b)
  where
    at_first : (v : Bool) → slice_split is_slash (cond v t (b ∷ t)) ≡ slice_split is_slash (drop (cond v 1 0) (b ∷ t))
    at_first true = refl
    at_first false = refl

-- the segments that are left are the pieces of the text from where the first of them begins
from_begin : (h : List ℕ) (at : ℕ) → at ≤ length h → segments_left h at ≡ slice_split is_slash (drop (segment_begin h at) h)
from_begin h at le = by_place (at == 0) refl
  where
    by_place : (v : Bool) → (at == 0) ≡ v → cond v (pieces h) (pieces_left (left_from h at)) ≡ slice_split is_slash (drop (cond (v && is_rooted h) 1 at) h)
    by_place true e = at_start h ∙ ap (λ n. slice_split is_slash (drop (cond (is_rooted h) 1 n) h)) (sym (eqb-true at 0 e))
    by_place false e = ap pieces_left (left_some h at le)

rooted_size : (h : List ℕ) → is_rooted h ≡ true → 1 ≤ length h
rooted_size [] e = cc
rooted_size (b ∷ t) e = omega arith

pub begin_within : (h : List ℕ) (at : ℕ) → at ≤ length h → segment_begin h at ≤ length h
begin_within h at le = by_both (at == 0 && is_rooted h) refl
  where
    by_both : (v : Bool) → (at == 0 && is_rooted h) ≡ v → cond v 1 at ≤ length h
    by_both true e = rooted_size h (and_parts (at == 0) (is_rooted h) e).1
    by_both false e = le

later : (h : List ℕ) (n : ℕ) → segments_left h (n + 1) ≡ pieces_left (left_from h (n + 1))
later h n = ap (λ v. cond v (pieces h) (pieces_left (left_from h (n + 1)))) (not_zero n)

-- the segments that are left are the first one, and those that are left after it
pub next_segment : (h : List ℕ) (at : ℕ) → at ≤ length h
    → segments_left h at ≡ before slash (drop (segment_begin h at) h) ∷ segments_left h (segment_begin h at + length (before slash (drop (segment_begin h at) h)) + 1)
next_segment h at le =
    let b = segment_begin h at in
    let u = drop b h in
    let s = before slash u in
    let places : b + (length s + 1) ≡ b + length s + 1 = omega arith in
    from_begin h at le
    ∙ pieces_cut u
    ∙ ap (λ o. s ∷ pieces_left o)
    (sym (after_is slash s u (after slash u) (before_after slash u)) ∙ left_twice h b (length s + 1) (begin_within h at le) ∙ ap (left_from h) places)
    ∙ ap (λ ss. s ∷ ss) (sym (later h (b + length s)))

-- the first segment, and the others
pub first_is : (ss rs qs : List (List ℕ)) (r s : List ℕ) → ss ≡ r ∷ rs → ss ≡ s ∷ qs → (r ≡ s) × (rs ≡ qs)
first_is ss rs qs r s h k = let same : r ∷ rs ≡ s ∷ qs = sym h ∙ k in (cc, cc)

pub not_none : (ss rs : List (List ℕ)) (r : List ℕ) → ss ≡ r ∷ rs → ss ≡ [] → ⊥
not_none ss rs r h k = let bad : r ∷ rs ≡ [] = sym h ∙ k in absurd (cc)
