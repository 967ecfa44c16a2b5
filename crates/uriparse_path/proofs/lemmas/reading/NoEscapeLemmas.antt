-- Texts without escapes, and the counts of their segments.
use Rattle.std.proofs.Common.{◌≡◌, ℕ, zero, suc, ◌+◌, ◌-◌, ◌<◌, ◌≤◌, Bool, true, false, not, ◌&&◌, ◌||◌, cond, List, [], ◌∷◌, ◌++◌, length, take, take_all, get_or, refl, sym, ap, subst, ◌∙◌, arith, inl, inr}
use Rattle.std.specs.Prelude.{◌==◌}
use Rattle.std.specs.List.{list_all, list_any, slice_split}
use Rattle.std.specs.Int.{bit_at}
use Rattle.std.proofs.lemmas.Bool.{cases_lt, eqb-true, not-true, and_parts, or_parts}
use Rattle.std.proofs.lemmas.List.Folds.{list_any-append}
use Rattle.std.proofs.lemmas.Nat.Bits.{bit_at-lt}
use Rattle.std.proofs.lemmas.Slice.Eq.{bytes_eq-Decides}
use Rattle.std.proofs.Math.Seq.{take-append_seam}
use Rattle.uriparse_text.specs.declared.internal.class.Class.TheVariants.{Segment}
use Rattle.uriparse_text.specs.Bytes.{slash, percent, is_unreserved, is_sub_delim}
use Rattle.uriparse_text.specs.Classes.{is_plain}
use Rattle.uriparse_text.specs.Cuts.{lacks, up_to, from_first}
use Rattle.uriparse_text.specs.Canonical.{canonical}
use Rattle.uriparse_text.specs.Marks.{AreMarks}
use Rattle.uriparse_text.proofs.lemmas.readings.CutLemmas.{other_byte, cut-whole}
use Rattle.uriparse_text.proofs.lemmas.scans.MarkLemmas.{marked}
use Rattle.uriparse_text.proofs.lemmas.classes.FaultByByteLemmas.{unset_is_plain}
use Rattle.uriparse_path.specs.Path.{is_slash, unrooted}
use Rattle.uriparse_path.specs.Faults.{ends_path}
use Rattle.uriparse_path.specs.Dots.{is_dot_segment, has_dot_segment}
use Rattle.uriparse_path.specs.Normal.{is_canonical}
use Rattle.uriparse_path.specs.Counts.{begins_with_dot, counts}
use Rattle.uriparse_text.proofs.lemmas.canonical.DotLemmas.{empty_no_dot}
use Rattle.uriparse_path.proofs.lemmas.reading.ReadingLemmas.{front_unrooted}
use Rattle.uriparse_path.proofs.lemmas.text.SplitLemmas.{IsCut, cut, pieces-slash, pieces-byte}
use Rattle.uriparse_path.proofs.lemmas.list.SegmentCountLemmas.{unescaped_stays, canonical_dots, counts_undotted, counts-nil}

-- ---- as far as a walk has come

-- no percent sign precedes this place
abbrev pub IsFree : List ℕ → ℕ → Type 0
IsFree t i = (j : ℕ) → j < i → (get_or t j 0 == percent) ≡ false

-- of these bytes those whose bit is unset are no percent signs, and none precedes them
pub record IsFreeRun (t : List ℕ) (at n left : ℕ) : Type 0 where
  pub before : IsFree t at
  pub passed : (k : ℕ) → k < n → bit_at left k ≡ 0 → (get_or t (at + k) 0 == percent) ≡ false

plain_no_sign : (b : ℕ) → is_plain Segment b ≡ true → (b == percent) ≡ false
unfolding is_plain is_unreserved is_sub_delim
plain_no_sign b h = not-true (b == percent) (other_byte (is_plain Segment) percent b refl h)

slash_no_sign : (b : ℕ) → is_slash b ≡ true → (b == percent) ≡ false
slash_no_sign b h = ap (λ c. c == percent) (eqb-true b slash h)

pub free_begins : (t : List ℕ) (at n marks slashes left : ℕ) → AreMarks (λ b. not (is_plain Segment b)) t at n marks → AreMarks is_slash t at n slashes → n ≤ 64
    → ((k : ℕ) → k < 64 → bit_at left k ≡ 0 → bit_at marks k ≡ 1 → bit_at slashes k ≡ 1) → IsFree t at → IsFreeRun t at n left
free_begins t at n marks slashes left outs are few gone free = record { before = free; passed = no_sign }
  where
    no_sign : (k : ℕ) → k < n → bit_at left k ≡ 0 → (get_or t (at + k) 0 == percent) ≡ false
    no_sign k h unset = elim (cases_lt (bit_at marks k) 1) [
      | inl none ↦ plain_no_sign (get_or t (at + k) 0) (unset_is_plain Segment t at n marks k outs h (omega (arith, none)))
      | inr some ↦
          let one : bit_at marks k ≡ 1 = omega (arith, some, bit_at-lt marks k) in
          slash_no_sign (get_or t (at + k) 0) ((marked is_slash t at n slashes are k (gone k (omega arith) unset one)).1)
    ]

pub free_to : (t : List ℕ) (at n left k : ℕ) → IsFreeRun t at n left → k ≤ n → ((j : ℕ) → j < k → bit_at left j ≡ 0) → IsFree t (at + k)
free_to t at n left k is short unset j h = elim (cases_lt j at) [
  | inl below ↦ is.before j below
  | inr past ↦
      let offset : at + (j - at) ≡ j = omega arith in
      subst (λ i. (get_or t i 0 == percent) ≡ false) offset (is.passed (j - at) (omega arith) (unset (j - at) (omega arith)))
]

pub free_lacks : (t : List ℕ) (n : ℕ) → IsFree t n → lacks percent (take n t) ≡ true
free_lacks t zero f = refl
free_lacks [] (suc n) f = refl
free_lacks (b ∷ t) (suc n) f =
    ap (λ v. not v && lacks percent (take n t)) (f 0 (omega arith)) ∙ free_lacks t n (λ j h. f (suc j) (omega arith))

-- ---- with a leading slash and without it

pub unrooted_lacks : (t : List ℕ) → lacks percent t ≡ true → lacks percent (unrooted t) ≡ true
unrooted_lacks [] h = refl
unrooted_lacks (b ∷ t) h = by_slash (is_slash b)
  where
    by_slash : (v : Bool) → lacks percent (cond v t (b ∷ t)) ≡ true
    by_slash true = (and_parts (not (b == percent)) (lacks percent t) h).1
    by_slash false = h

pub rooted_lacks : (t : List ℕ) → lacks percent (unrooted t) ≡ true → lacks percent t ≡ true
rooted_lacks [] h = refl
rooted_lacks (b ∷ t) h = by_slash (is_slash b) refl h
  where
    by_slash : (v : Bool) → is_slash b ≡ v → lacks percent (cond v t (b ∷ t)) ≡ true → lacks percent (b ∷ t) ≡ true
    by_slash true e k = ap (λ w. not w && lacks percent t) (slash_no_sign b e) ∙ k
    by_slash false e k = k

pub front_lacks : (t : List ℕ) (n : ℕ) → n ≡ length (up_to ends_path (unrooted t)) → lacks percent (take n (unrooted t)) ≡ true
    → lacks percent (up_to ends_path t) ≡ true
front_lacks t n long h =
    let u = unrooted t in
    let front : take n u ≡ up_to ends_path u = ap (λ m. take m u) long
    ∙ ap (take (length (up_to ends_path u))) (sym (cut-whole ends_path u)) ∙ take-append_seam (up_to ends_path u) (from_first ends_path u) in
    rooted_lacks (up_to ends_path t) (ap (lacks percent) (front_unrooted t ∙ sym front) ∙ h)

-- ---- the segments

pub any_push : (p : List ℕ → Bool) (ss : List (List ℕ)) (s : List ℕ) (v : Bool) → v ≡ list_any p ss → (v || p s) ≡ list_any p (ss ++ s ∷ [])
any_push p ss s v e =
    ap (λ w. w || p s) e ∙ ap (λ w. list_any p ss || w) (or_false (p s)) ∙ sym (list_any-append p ss (s ∷ []))
  where
    or_false : (w : Bool) → w ≡ (w || false)
    or_false true = refl
    or_false false = refl

pieces_lack : (t : List ℕ) → lacks percent t ≡ true → list_all (lacks percent) (slice_split is_slash t) ≡ true
pieces_lack [] h = refl
pieces_lack (b ∷ t) h =
    let parts = and_parts (not (b == percent)) (lacks percent t) h in
    by_slash (is_slash b) refl (cut t) parts.0 (pieces_lack t parts.1)
  where
    by_slash : (v : Bool) → is_slash b ≡ v → (is : IsCut t) → not (b == percent) ≡ true → list_all (lacks percent) (slice_split is_slash t) ≡ true
        → list_all (lacks percent) (slice_split is_slash (b ∷ t)) ≡ true
    by_slash true e is other rest = ap (list_all (lacks percent)) (pieces-slash b t e) ∙ rest
    by_slash false e is other rest =
        ap (list_all (lacks percent)) (pieces-byte b t e is)
        ∙ ap (λ v. (v && lacks percent is.first) && list_all (lacks percent) is.others) other
        ∙ sym (ap (list_all (lacks percent)) is.pieces) ∙ rest

undotted : (s : List ℕ) → begins_with_dot s ≡ false → canonical s ≡ s → is_dot_segment s ≡ false
undotted [] h k = empty_no_dot
undotted (b ∷ s) h k = canonical_dots (b ∷ s) b refl h k

no_dots : (ss : List (List ℕ)) → list_all (lacks percent) ss ≡ true → list_any begins_with_dot ss ≡ false
    → (has_dot_segment ss ≡ false) × (list_all is_canonical ss ≡ true)
no_dots [] h k = (refl, refl)
no_dots (s ∷ ss) h k =
    let free = and_parts (lacks percent s) (list_all (lacks percent) ss) h in
    let plain = or_parts (begins_with_dot s) (list_any begins_with_dot ss) k in
    let stays = unescaped_stays s free.0 in
    let rest = no_dots ss free.1 plain.1 in (
      ap (λ v. v || has_dot_segment ss) (undotted s plain.0 stays) ∙ rest.0,
      ap (λ v. v && list_all is_canonical ss) ((bytes_eq-Decides (canonical s) s).1 stays) ∙ rest.1,
    )

-- a text without escapes none of whose segments begins with a dot
pub plain_counts : (t : List ℕ) → lacks percent t ≡ true → list_any begins_with_dot (slice_split is_slash t) ≡ false
    → counts [] ≡ counts (slice_split is_slash t)
plain_counts t h k =
    let are = no_dots (slice_split is_slash t) (pieces_lack t h) k in
    sym counts-nil ∙ counts_undotted (slice_split is_slash t) are.0 are.1

pub lacks_all : (t : List ℕ) (n : ℕ) → length t ≤ n → lacks percent (take n t) ≡ true → lacks percent t ≡ true
lacks_all t n h k = ap (lacks percent) (sym (take_all n t h)) ∙ k
