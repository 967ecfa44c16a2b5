-- What dot removal leaves of segments, read from the last one to the first.
use Rattle.std.proofs.Common.{◌≡◌, ℕ, zero, suc, ◌+◌, ◌≤◌, Bool, true, false, cond, List, [], ◌∷◌, ◌++◌, length, length-append, refl, sym, ap, ◌∙◌, arith}
use Rattle.uriparse_path.specs.Dots.{is_single_dot, is_double_dot}
use Rattle.uriparse_path.specs.Relative.{is_last}
use Rattle.uriparse_path.specs.Remaining.{Remaining, nothing, process_all, process_one, process_plain, remaining_of}
use Rattle.uriparse_path.specs.Within.{EndsWithKept}
use Rattle.uriparse_path.proofs.lemmas.left.BackwardLemmas.{process_all-append}
use Rattle.uriparse_path.proofs.lemmas.normal.RelativeLengthLemmas.{last_push}

-- more segments after those that are kept
abbrev pub with_kept : Remaining → List (List ℕ) → Remaining
with_kept l more = record { double_dots = l.double_dots; kept = l.kept ++ more; removed = l.removed }

one_kept : (s : List ℕ) (l : Remaining) (more : List (List ℕ)) → process_one s (with_kept l more) ≡ with_kept (process_one s l) more
one_kept s l more = by_kind (is_single_dot s) (is_double_dot s) l.double_dots
  where
    by_kind : (v w : Bool) (n : ℕ)
        → cond v (with_kept l more) (cond w (record { double_dots = suc l.double_dots; kept = l.kept ++ more; removed = l.removed }) (process_plain s n (with_kept l more)))
        ≡ with_kept (cond v l (cond w (record { double_dots = suc l.double_dots; kept = l.kept; removed = l.removed }) (process_plain s n l))) more
    by_kind true w n = refl
    by_kind false true n = refl
    by_kind false false zero = refl
    by_kind false false (suc n) = refl

all_kept : (ss : List (List ℕ)) (l : Remaining) (more : List (List ℕ)) → process_all ss (with_kept l more) ≡ with_kept (process_all ss l) more
all_kept [] l more = refl
all_kept (s ∷ ss) l more = ap (process_one s) (all_kept ss l more) ∙ one_kept s (process_all ss l) more

-- the segments before one that is read
pub before_last : (ss front : List (List ℕ)) (last : List ℕ) (l : Remaining) → ss ≡ front ++ last ∷ [] → process_all ss l ≡ process_all front (process_one last l)
before_last ss front last l e = ap (λ x. process_all x l) e ∙ process_all-append front (last ∷ []) l

pub ends_with_kept : (ss left front : List (List ℕ)) (last : List ℕ) (l : Remaining) → process_all left l ≡ remaining_of ss → left ≡ front ++ last ∷ []
    → process_one last l ≡ record { double_dots = 0; kept = last ∷ []; removed = false } → length left ≤ length ss → EndsWithKept ss front last
ends_with_kept ss left front last l whole e one less =
    let same : remaining_of ss ≡ with_kept (remaining_of front) (last ∷ []) =
    sym whole ∙ before_last left front last l e ∙ ap (process_all front) one ∙ all_kept front nothing (last ∷ []) in
    let size = ap length e in
    let sum = length-append front (last ∷ []) in
    record { kept = ap (λ r. r.kept) same; removed = ap (λ r. r.removed) same; shorter = omega (arith, less, size, sum) }

pub one_less : (left front : List (List ℕ)) (last : List ℕ) → left ≡ front ++ last ∷ [] → length left ≡ length front + 1
one_less left front last e = let size = ap length e in let sum = length-append front (last ∷ []) in omega (arith, size, sum)

pub last_of : (p : List ℕ → Bool) (left front : List (List ℕ)) (last : List ℕ) → left ≡ front ++ last ∷ [] → is_last p left ≡ p last
last_of p left front last e = ap (is_last p) e ∙ last_push p front last
