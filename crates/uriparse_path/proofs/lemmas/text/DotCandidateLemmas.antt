-- Segments that begin neither with a dot nor with a percent sign are no dot segments.
use Rattle.std.proofs.Common.{◌≡◌, ℕ, zero, suc, ◌+◌, ◌-◌, ◌<◌, ◌≤◌, Bool, true, false, ◌&&◌, ◌||◌, List, [], ◌∷◌, ◌++◌, length, get_or, take, drop, refl, sym, ap, subst, ◌∙◌, arith, inl, inr}
use Rattle.std.specs.Prelude.{◌==◌}
use Rattle.std.specs.List.{list_all, slice_split}
use Rattle.std.proofs.lemmas.Bool.{and_parts, or_parts, false≢true, cases_lt, eqb-true}
use Rattle.std.proofs.lemmas.List.{take-append-drop, drop_more, drop_all}
use Rattle.std.proofs.lemmas.List.Folds.{list_all-append, list_any-append}
use Rattle.std.proofs.Math.Bool.{or-true}
use Rattle.uriparse_text.specs.Bytes.{dot, percent, slash}
use Rattle.uriparse_text.specs.Segment.{is_segment}
use Rattle.uriparse_text.proofs.lemmas.canonical.DotLemmas.{empty_no_dot, dots_begin}
use Rattle.uriparse_path.specs.Path.{is_slash}
use Rattle.uriparse_path.specs.Dots.{is_dot_segment, has_dot_segment}
use Rattle.uriparse_path.specs.Relative.{is_first}
use Rattle.uriparse_path.specs.Last.{may_begin_dot_segment, begins_with_dot_candidate, begins_segment, LacksDotsAfter, IsLastDots}
use Rattle.uriparse_path.proofs.lemmas.reading.LengthFaultLemmas.{split-append}
use Rattle.uriparse_path.proofs.lemmas.text.SplitLemmas.{IsCut, cut, pieces-slash, pieces-byte}

head_of : (b : ℕ) → (b == dot || b == percent) ≡ true → may_begin_dot_segment b ≡ true
head_of b h = by_test (b == dot) (b == percent) h
  where
    by_test : (v w : Bool) → (v || w) ≡ true → (v || w || w) ≡ true
    by_test true w h = refl
    by_test false true h = refl
    by_test false false h = h

undotted : (b : ℕ) (s : List ℕ) → may_begin_dot_segment b ≡ false → is_dot_segment (b ∷ s) ≡ false
undotted b s h = by_test (is_dot_segment (b ∷ s)) refl
  where
    by_test : (v : Bool) → is_dot_segment (b ∷ s) ≡ v → v ≡ false
    by_test false e = refl
    by_test true e = absurd (false≢true (sym h ∙ head_of b (dots_begin b s e)))

-- ---- the first segment of a text

pub first_undotted : (t : List ℕ) → begins_with_dot_candidate t ≡ false → is_first is_dot_segment (slice_split is_slash t) ≡ false
first_undotted [] h = empty_no_dot
first_undotted (b ∷ t) h = by_slash (is_slash b) refl
  where
    by_slash : (v : Bool) → is_slash b ≡ v → is_first is_dot_segment (slice_split is_slash (b ∷ t)) ≡ false
    by_slash true e = ap (is_first is_dot_segment) (pieces-slash b t e) ∙ empty_no_dot
    by_slash false e = let is = cut t in ap (is_first is_dot_segment) (pieces-byte b t e is) ∙ undotted b is.first h

pub head_at : (t : List ℕ) (at : ℕ) → may_begin_dot_segment (get_or t at 0) ≡ false → begins_with_dot_candidate (drop at t) ≡ false
head_at t at h = elim (cases_lt at (length t)) [
  | inl inside ↦ ap begins_with_dot_candidate (drop_more t at 0 inside) ∙ h
  | inr past ↦ ap begins_with_dot_candidate (drop_all at t past)
]

pub undotted_at : (t : List ℕ) (at : ℕ) → may_begin_dot_segment (get_or t at 0) ≡ false → is_first is_dot_segment (slice_split is_slash (drop at t)) ≡ false
undotted_at t at h = first_undotted (drop at t) (head_at t at h)

-- the first segment and the others
pub none_dotted : (t : List ℕ) → is_first is_dot_segment (slice_split is_slash t) ≡ false → has_dot_segment (drop 1 (slice_split is_slash t)) ≡ false
    → has_dot_segment (slice_split is_slash t) ≡ false
none_dotted t first later =
    let is = cut t in
    ap has_dot_segment is.pieces
    ∙ ap (λ v. v || has_dot_segment is.others) (sym (ap (is_first is_dot_segment) is.pieces) ∙ first)
    ∙ sym (ap (λ l. has_dot_segment (drop 1 l)) is.pieces) ∙ later

pub some_dotted : (t : List ℕ) → is_first is_dot_segment (slice_split is_slash t) ≡ true → has_dot_segment (slice_split is_slash t) ≡ true
some_dotted t first =
    let is = cut t in
    ap has_dot_segment is.pieces ∙ ap (λ v. v || has_dot_segment is.others) (sym (ap (is_first is_dot_segment) is.pieces) ∙ first)

-- ---- one place lower

after_byte : (b : ℕ) (t : List ℕ) → (is_slash b ≡ true → is_first is_dot_segment (slice_split is_slash t) ≡ false)
    → has_dot_segment (drop 1 (slice_split is_slash t)) ≡ false → has_dot_segment (drop 1 (slice_split is_slash (b ∷ t))) ≡ false
after_byte b t first later = by_slash (is_slash b) refl
  where
    by_slash : (v : Bool) → is_slash b ≡ v → has_dot_segment (drop 1 (slice_split is_slash (b ∷ t))) ≡ false
    by_slash true e = ap (λ l. has_dot_segment (drop 1 l)) (pieces-slash b t e) ∙ none_dotted t (first e) later
    by_slash false e =
        let is = cut t in
        ap (λ l. has_dot_segment (drop 1 l)) (pieces-byte b t e is) ∙ sym (ap (λ l. has_dot_segment (drop 1 l)) is.pieces) ∙ later

before_byte : (b : ℕ) (t : List ℕ) → has_dot_segment (drop 1 (slice_split is_slash (b ∷ t))) ≡ false → has_dot_segment (drop 1 (slice_split is_slash t)) ≡ false
before_byte b t h = by_slash (is_slash b) refl (cut t)
  where
    by_slash : (v : Bool) → is_slash b ≡ v → IsCut t → has_dot_segment (drop 1 (slice_split is_slash t)) ≡ false
    by_slash true e is =
        ap (λ l. has_dot_segment (drop 1 l)) is.pieces
        ∙ (or_parts (is_dot_segment is.first) (has_dot_segment is.others)
        (sym (ap has_dot_segment is.pieces) ∙ sym (ap (λ l. has_dot_segment (drop 1 l)) (pieces-slash b t e)) ∙ h)).1
    by_slash false e is =
        ap (λ l. has_dot_segment (drop 1 l)) is.pieces ∙ sym (ap (λ l. has_dot_segment (drop 1 l)) (pieces-byte b t e is)) ∙ h

pub lower : (t : List ℕ) (at : ℕ) → at < length t
    → (is_slash (get_or t at 0) ≡ true → is_first is_dot_segment (slice_split is_slash (drop (at + 1) t)) ≡ false)
    → LacksDotsAfter (at + 1) t → LacksDotsAfter at t
lower t at inside first later =
    subst (λ u. has_dot_segment (drop 1 (slice_split is_slash u)) ≡ false) (sym (drop_more t at 0 inside))
    (after_byte (get_or t at 0) (drop (at + 1) t) first later)

pub raise : (t : List ℕ) (at : ℕ) → at < length t → LacksDotsAfter at t → LacksDotsAfter (at + 1) t
raise t at inside h =
    before_byte (get_or t at 0) (drop (at + 1) t)
    (subst (λ u. has_dot_segment (drop 1 (slice_split is_slash u)) ≡ false) (drop_more t at 0 inside) h)

-- the byte before a place has no segment after it that is counted
pub raised : (t : List ℕ) (end : ℕ) → end ≤ length t → LacksDotsAfter (end - 1) t → LacksDotsAfter end t
raised t zero within h = h
raised t (suc n) within h =
    let less : suc n - 1 ≡ n = omega arith in
    let more : n + 1 ≡ suc n = omega arith in
    subst (λ i. LacksDotsAfter i t) more (raise t n (omega arith) (subst (λ i. LacksDotsAfter i t) less h))

-- a run of bytes
pub lower_run : (t : List ℕ) (at n : ℕ) → at + n ≤ length t
    → ((k : ℕ) → k < n → (is_slash (get_or t (at + k) 0) && may_begin_dot_segment (get_or t (at + k + 1) 0)) ≡ false)
    → LacksDotsAfter (at + n) t → LacksDotsAfter at t
lower_run t at zero fits none later = let same : at + 0 ≡ at = omega arith in subst (λ i. LacksDotsAfter i t) same later
lower_run t at (suc n) fits none later =
    lower_run t at n (omega arith) (λ k h. none k (omega arith))
    (lower t (at + n) (omega arith) first (subst (λ i. LacksDotsAfter i t) same later))
  where
    same : at + suc n ≡ at + n + 1
    same = omega arith

    first : is_slash (get_or t (at + n) 0) ≡ true → is_first is_dot_segment (slice_split is_slash (drop (at + n + 1) t)) ≡ false
    first e = undotted_at t (at + n + 1) (sym (ap (λ v. v && may_begin_dot_segment (get_or t (at + n + 1) 0)) e) ∙ none n (omega arith))

-- the last byte has no segment after it, but for an empty one
pub lacks_last : (t : List ℕ) → LacksDotsAfter (length t - 1) t
lacks_last [] = refl
lacks_last (b ∷ t) =
    let end : length (b ∷ t) - 1 + 1 ≡ length (b ∷ t) = omega arith in
    let nothing : drop (length (b ∷ t) - 1 + 1) (b ∷ t) ≡ [] = drop_all (length (b ∷ t) - 1 + 1) (b ∷ t) (omega arith) in
    lower (b ∷ t) (length (b ∷ t) - 1) (omega arith)
    (λ _. ap (λ u. is_first is_dot_segment (slice_split is_slash u)) nothing ∙ empty_no_dot)
    (ap (λ u. has_dot_segment (drop 1 (slice_split is_slash u))) nothing)

pub begins_after : (t : List ℕ) (n : ℕ) → 0 < n → begins_segment n t ≡ is_slash (get_or t (n - 1) 0)
begins_after t zero h = absurd (omega arith)
begins_after t (suc n) h = let less : n ≡ suc n - 1 = omega arith in ap (λ i. is_slash (get_or t i 0)) less

-- ---- where a segment begins

-- the segments before a slash, and those after it
pub cut_at : (t : List ℕ) (at : ℕ) → at < length t → get_or t at 0 ≡ slash
    → slice_split is_slash t ≡ slice_split is_slash (take at t) ++ slice_split is_slash (drop (at + 1) t)
cut_at t at inside here =
    ap (slice_split is_slash) (sym (take-append-drop at t) ∙ ap (λ l. take at t ++ l) (drop_more t at 0 inside ∙ ap (λ b. b ∷ drop (at + 1) t) here))
    ∙ split-append (take at t) (drop (at + 1) t)

-- the segments before a place at which one begins
abbrev pub before : ℕ → List ℕ → List (List ℕ)
before zero t = []
before (suc at) t = slice_split is_slash (take at t)

pub before_less : (t : List ℕ) (at : ℕ) → 0 < at → before at t ≡ slice_split is_slash (take (at - 1) t)
before_less t zero h = absurd (omega arith)
before_less t (suc at) h = let less : at ≡ suc at - 1 = omega arith in ap (λ n. slice_split is_slash (take n t)) less

pub begun : (t : List ℕ) (at : ℕ) → begins_segment at t ≡ true → at ≤ length t
    → slice_split is_slash t ≡ before at t ++ slice_split is_slash (drop at t)
begun t zero b h = refl
begun t (suc at) b h =
    let same : at + 1 ≡ suc at = omega arith in
    subst (λ n. slice_split is_slash t ≡ slice_split is_slash (take at t) ++ slice_split is_slash (drop n t)) same
    (cut_at t at (omega arith) (eqb-true (get_or t at 0) slash b))

pub segments_from : (t : List ℕ) (at : ℕ) → begins_segment at t ≡ true → at ≤ length t → list_all is_segment (slice_split is_slash t) ≡ true
    → (list_all is_segment (before at t) ≡ true) × (list_all is_segment (slice_split is_slash (drop at t)) ≡ true)
segments_from t at b h each =
    and_parts _ _ (sym (list_all-append is_segment (before at t) (slice_split is_slash (drop at t)))
    ∙ ap (list_all is_segment) (sym (begun t at b h)) ∙ each)

pub has_dots : (t : List ℕ) (at : ℕ) → IsLastDots at t → has_dot_segment (slice_split is_slash t) ≡ true
has_dots t at is =
    ap has_dot_segment (begun t at is.begins is.within)
    ∙ list_any-append is_dot_segment (before at t) (slice_split is_slash (drop at t))
    ∙ ap (λ v. has_dot_segment (before at t) || v) (some_dotted (drop at t) is.dots) ∙ or-true (has_dot_segment (before at t))
