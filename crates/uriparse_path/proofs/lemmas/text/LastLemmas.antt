-- The last dot segment of a text.
use Rattle.std.proofs.Common.{◌≡◌, ℕ, suc, ◌+◌, ◌-◌, ◌<◌, ◌≤◌, Bool, true, false, not, ◌&&◌, List, [], ◌∷◌, ◌++◌, length, get_or, drop, refl, sym, ap, subst, ◌∙◌, arith, nat_eq, Option, Some, None, is_some, inl, inr}
use Rattle.std.specs.Int.{bit_at}
use Rattle.std.specs.List.{slice_split}
use Rattle.std.proofs.lemmas.Bool.{and_parts, cases_lt, or_parts}
use Rattle.std.proofs.lemmas.Bool.Decides.{nat_tests}
use Rattle.uriparse_text.specs.Bytes.{dot}
use Rattle.uriparse_text.specs.Cuts.{up_to, from_first, part}
use Rattle.uriparse_text.proofs.lemmas.canonical.DotLemmas.{double_of, canonical-dots}
use Rattle.uriparse_text.proofs.lemmas.scans.NeighbourLemmas.{set_bit, unset_bit}
use Rattle.uriparse_path.specs.Path.{is_slash}
use Rattle.uriparse_path.specs.Dots.{is_dot_segment, is_double_dot, has_dot_segment}
use Rattle.uriparse_path.specs.Relative.{is_first, is_last}
use Rattle.uriparse_path.specs.Text.{pieces_left}
use Rattle.uriparse_path.specs.Last.{AreHeadMarks, begins_segment, may_begin_dot_segment, LacksDotsAfter, IsLast, IsLastDots}
use Rattle.uriparse_path.proofs.lemmas.left.RemainingLemmas.{last_after}
use Rattle.uriparse_path.proofs.lemmas.text.DotCandidateLemmas.{before, begins_after, begun, has_dots, lower, lower_run}
use Rattle.uriparse_path.proofs.lemmas.text.SplitLemmas.{cut}
use Rattle.uriparse_path.proofs.lemmas.text.TextWalkLemmas.{pieces_cut}

pub two_dots : (s : List ℕ) → length s ≡ 2 → get_or s 0 0 ≡ dot → get_or s 1 0 ≡ dot → is_double_dot s ≡ true
two_dots [] n e f = absurd (omega (arith, n))
two_dots (b ∷ []) n e f = absurd (omega (arith, n))
two_dots (b ∷ c ∷ []) n e f =
    ap (λ x. is_double_dot (x ∷ c ∷ [])) e ∙ ap (λ x. is_double_dot (dot ∷ x ∷ [])) f ∙ double_of (dot ∷ dot ∷ []) canonical-dots
two_dots (b ∷ c ∷ d ∷ s) n e f = absurd (omega (arith, n))

-- ---- by marks

-- a bit that is set stands below those that are not
pub below_unset : (m k end : ℕ) → bit_at m k ≡ 1 → ((j : ℕ) → end ≤ j → bit_at m j ≡ 0) → k < end
below_unset m k end marked gone = elim (cases_lt k end) [
  | inl below ↦ below
  | inr past ↦ absurd (omega (arith, marked, gone k past))
]

-- a segment begins at a place with a mark
pub begins_marked : (t : List ℕ) (at n marks k : ℕ) → 0 < at → AreHeadMarks t at n marks → k < n → bit_at marks k ≡ 1 → begins_segment (at + k) t ≡ true
begins_marked t at n marks k some are h marked =
    let prior : at + k - 1 ≡ at - 1 + k = omega arith in
    begins_after t (at + k) (omega arith) ∙ ap (λ i. is_slash (get_or t i 0)) prior
    ∙ (and_parts (is_slash (get_or t (at - 1 + k) 0)) (may_begin_dot_segment (get_or t (at + k) 0)) (set_bit _ (bit_at marks k) (are k h) marked)).0

-- no dot segment begins at places without a mark
pub lower_unmarked : (t : List ℕ) (at n marks k end : ℕ) → 0 < at → at + n ≤ length t → AreHeadMarks t at n marks → k ≤ end → end ≤ n
    → ((j : ℕ) → k ≤ j → j < end → bit_at marks j ≡ 0) → LacksDotsAfter (at - 1 + end) t → LacksDotsAfter (at - 1 + k) t
lower_unmarked t at n marks k end some within are order few none later =
    lower_run t (at - 1 + k) (end - k) (omega arith) apart (subst (λ i. LacksDotsAfter i t) top later)
  where
    top : at - 1 + end ≡ at - 1 + k + (end - k)
    top = omega arith

    apart : (j : ℕ) → j < end - k → (is_slash (get_or t (at - 1 + k + j) 0) && may_begin_dot_segment (get_or t (at - 1 + k + j + 1) 0)) ≡ false
    apart j h =
        let prior : at - 1 + k + j ≡ at - 1 + (k + j) = omega arith in
        let here : at - 1 + k + j + 1 ≡ at + (k + j) = omega arith in
        ap (λ i. is_slash (get_or t i 0) && may_begin_dot_segment (get_or t (at - 1 + k + j + 1) 0)) prior
        ∙ ap (λ i. is_slash (get_or t (at - 1 + (k + j)) 0) && may_begin_dot_segment (get_or t i 0)) here
        ∙ unset_bit _ (bit_at marks (k + j)) (are (k + j) (omega arith)) (none (k + j) (omega arith) (omega arith))

-- nor at a place that has the last of the marks, if none begins there
pub lower_marked : (t : List ℕ) (at n marks k end : ℕ) → 0 < at → at + n ≤ length t → AreHeadMarks t at n marks → k < end → end ≤ n
    → ((j : ℕ) → k < j → j < end → bit_at marks j ≡ 0) → LacksDotsAfter (at - 1 + end) t
    → LacksDotsAfter (at + k) t × (is_first is_dot_segment (slice_split is_slash (drop (at + k) t)) ≡ false → LacksDotsAfter (at - 1 + k) t)
lower_marked t at n marks k end some within are order few none later = (above, here)
  where
    next : at - 1 + (k + 1) ≡ at + k
    next = omega arith

    above : LacksDotsAfter (at + k) t
    above =
        subst (λ i. LacksDotsAfter i t) next
        (lower_unmarked t at n marks (k + 1) end some within are (omega arith) few (λ j h i. none j (omega arith) i) later)

    here : is_first is_dot_segment (slice_split is_slash (drop (at + k) t)) ≡ false → LacksDotsAfter (at - 1 + k) t
    here first =
        let step : at + k ≡ at - 1 + k + 1 = omega arith in
        lower t (at - 1 + k) (omega arith)
        (λ _. subst (λ i. is_first is_dot_segment (slice_split is_slash (drop i t)) ≡ false) step first)
        (subst (λ i. LacksDotsAfter i t) step above)

-- ---- the last segment

pub last_undotted : (ss : List (List ℕ)) → has_dot_segment ss ≡ false → is_last is_dot_segment ss ≡ false
last_undotted [] h = refl
last_undotted (s ∷ []) h = (or_parts _ _ h).0
last_undotted (s ∷ r ∷ ss) h = last_undotted (r ∷ ss) (or_parts (is_dot_segment s) _ h).1

not_none : (n : ℕ) → nat_eq (suc n) 0 ≡ false
not_none n = grind (arith, nat_tests)

ends : (s r : List ℕ) → is_dot_segment s ≡ true → has_dot_segment (pieces_left (part r)) ≡ false
    → nat_eq (length r) 0 ≡ is_last is_dot_segment (s ∷ pieces_left (part r))
ends s [] h k = sym h
ends s (b ∷ r) h k =
    let is = cut r in
    not_none (length r) ∙ sym (ap (λ l. is_last is_dot_segment (s ∷ l)) is.pieces ∙ last_undotted (is.first ∷ is.others) (sym (ap has_dot_segment is.pieces) ∙ k))

-- the last dot segment is the last segment exactly if no slash follows it
pub ends_at : (t : List ℕ) (at : ℕ) → IsLastDots at t → nat_eq (length (from_first is_slash (drop at t))) 0 ≡ is_last is_dot_segment (slice_split is_slash t)
ends_at t at is =
    let u = drop at t in
    let rest = from_first is_slash u in
    ends (up_to is_slash u) rest (sym (ap (is_first is_dot_segment) (pieces_cut u)) ∙ is.dots)
    (sym (ap (λ l. has_dot_segment (drop 1 l)) (pieces_cut u)) ∙ is.later)
    ∙ sym (ap (is_last is_dot_segment) (begun t at is.begins is.within ∙ ap (λ l. before at t ++ l) (pieces_cut u))
    ∙ last_after is_dot_segment (before at t) (up_to is_slash u) (pieces_left (part rest)))

-- ---- whether there is one

told : (r s d : Bool) → s ≡ not r → s ≡ d → r ≡ not d
told true s d e f = ap not (sym e ∙ f)
told false s d e f = ap not (sym e ∙ f)

pub none_last : (t : List ℕ) (o : Option ℕ) (r : Bool) → IsLast o t → is_some o ≡ not r → r ≡ not (has_dot_segment (slice_split is_slash t))
none_last t None r h e = told r false (has_dot_segment (slice_split is_slash t)) e (sym h)
none_last t (Some at) r is e = told r true (has_dot_segment (slice_split is_slash t)) e (sym (has_dots t at is))
