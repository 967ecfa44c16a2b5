-- What is left of a path's segments is what dot removal keeps of them.
use Rattle.std.proofs.Common.{◌≡◌, ℕ, zero, suc, ◌<◌, Bool, true, false, not, cond, List, [], ◌∷◌, ◌++◌, length, refl, sym, ap, ◌∙◌, arith, append-nil, append_assoc, ◌||◌}
use Rattle.uriparse_path.specs.Dots.{is_single_dot, is_double_dot, is_dot_segment, all_but_last, replay, is_one, rooted_after}
use Rattle.uriparse_path.specs.Relative.{is_last}
use Rattle.uriparse_path.specs.Remaining.{Remaining, process_plain, remaining_of, with_end, is_more}
use Rattle.uriparse_path.proofs.lemmas.merge.MergedNormalFormLemmas.{step, walk, walk-append, all_but_last_push, replay-append, replay_dot}
use Rattle.uriparse_path.proofs.lemmas.normal.RelativeLengthLemmas.{last_push, pushed}

-- without this many segments at the end
abbrev pub cuts : ℕ → List (List ℕ) → List (List ℕ)
cuts zero out = out
cuts (suc n) out = cuts n (all_but_last out)

-- a segment that is pushed, and what is left of those after it
push_left : (out : List (List ℕ)) (s : List ℕ) (n : ℕ) (l : Remaining) → n ≡ l.double_dots
    → cuts n (out ++ s ∷ []) ++ l.kept ≡ cuts (process_plain s n l).double_dots out ++ (process_plain s n l).kept
push_left out s zero l e = append_assoc out (s ∷ []) l.kept
push_left out s (suc n) l e = ap (λ u. cuts n u ++ l.kept) (all_but_last_push out s)

-- the stack that a replay leaves
pub walk_left : (out ss : List (List ℕ)) → walk out ss ≡ cuts (remaining_of ss).double_dots out ++ (remaining_of ss).kept
walk_left out [] = sym (append-nil out)
walk_left out (s ∷ ss) = by_kind (is_single_dot s) (is_double_dot s) (remaining_of ss) (λ o. walk_left o ss)
  where
    by_kind : (v w : Bool) (l : Remaining) → ((o : List (List ℕ)) → walk o ss ≡ cuts l.double_dots o ++ l.kept)
        → walk (cond v out (cond w (all_but_last out) (out ++ s ∷ []))) ss
        ≡ cuts (cond v l (cond w (record { double_dots = suc l.double_dots; kept = l.kept; removed = l.removed }) (process_plain s l.double_dots l))).double_dots out
        ++ (cond v l (cond w (record { double_dots = suc l.double_dots; kept = l.kept; removed = l.removed }) (process_plain s l.double_dots l))).kept
    by_kind true w l h = h out
    by_kind false true l h = h (all_but_last out)
    by_kind false false l h = h (out ++ s ∷ []) ∙ push_left out s l.double_dots l refl

cuts_none : (n : ℕ) → cuts n [] ≡ []
cuts_none zero = refl
cuts_none (suc n) = cuts_none n

pub walk_kept : (ss : List (List ℕ)) → walk [] ss ≡ (remaining_of ss).kept
walk_kept ss = walk_left [] ss ∙ ap (λ u. u ++ (remaining_of ss).kept) (cuts_none (remaining_of ss).double_dots)

-- ---- the segments of a text without dot segments

replay_plain : (out : List (List ℕ)) (s : List ℕ) → is_dot_segment s ≡ false → replay out (s ∷ []) ≡ step out s
replay_plain out s h = by_kind (is_single_dot s) (is_double_dot s) h
  where
    by_kind : (v w : Bool) → (v || w) ≡ false
        → cond v (out ++ [] ∷ []) (cond w (all_but_last out ++ [] ∷ []) (out ++ s ∷ [])) ≡ cond v out (cond w (all_but_last out) (out ++ s ∷ []))
    by_kind true w k = cc
    by_kind false true k = cc
    by_kind false false k = refl

replay_pushed : (front : List (List ℕ)) (y : List ℕ) → replay [] (front ++ y ∷ []) ≡ with_end (is_dot_segment y) (walk [] (front ++ y ∷ []))
replay_pushed front y = replay-append [] front (y ∷ []) (omega arith) ∙ by_dot (is_dot_segment y) refl ∙ ap (with_end (is_dot_segment y)) (sym (walk-append [] front (y ∷ [])))
  where
    by_dot : (v : Bool) → is_dot_segment y ≡ v → replay (walk [] front) (y ∷ []) ≡ with_end v (step (walk [] front) y)
    by_dot true e = replay_dot (walk [] front) y e
    by_dot false e = replay_plain (walk [] front) y e

pub replay_left : (ss : List (List ℕ)) → 0 < length ss → replay [] ss ≡ with_end (is_last is_dot_segment ss) (remaining_of ss).kept
replay_left [] h = absurd (omega arith)
replay_left (s ∷ ss) h =
    let is = pushed s ss in
    ap (replay []) is.whole
    ∙ replay_pushed is.front is.last
    ∙ ap (λ v. with_end v (walk [] (is.front ++ is.last ∷ []))) (sym (ap (is_last is_dot_segment) is.whole ∙ last_push is_dot_segment is.front is.last))
    ∙ ap (λ u. with_end (is_last is_dot_segment (s ∷ ss)) (walk [] u)) (sym is.whole)
    ∙ ap (with_end (is_last is_dot_segment (s ∷ ss))) (walk_kept (s ∷ ss))

pub last_after : (p : List ℕ → Bool) (a : List (List ℕ)) (s : List ℕ) (ss : List (List ℕ)) → is_last p (a ++ s ∷ ss) ≡ is_last p (s ∷ ss)
last_after p [] s ss = refl
last_after p (r ∷ []) s ss = refl
last_after p (r ∷ q ∷ a) s ss = last_after p (q ∷ a) s ss

-- ---- whether a slash precedes them

-- the stack is used up, or if it is empty the first segment that is no dot segment is removed
abbrev uproots : List (List ℕ) → Remaining → Bool
uproots [] l = l.removed
uproots (s ∷ out) l = not (is_more (cuts l.double_dots (s ∷ out)))

uproots_push : (out : List (List ℕ)) (s : List ℕ) (l : Remaining) → uproots (out ++ s ∷ []) l ≡ not (is_more (cuts l.double_dots (out ++ s ∷ [])))
uproots_push [] s l = refl
uproots_push (x ∷ out) s l = refl

-- a segment that is pushed
uproots_reached : (out : List (List ℕ)) (s : List ℕ) (n : ℕ) (l : Remaining) → n ≡ l.double_dots → not (is_more (cuts n (out ++ s ∷ []))) ≡ uproots out (process_plain s n l)
uproots_reached [] s zero l e = refl
uproots_reached (x ∷ out) s zero l e = refl
uproots_reached [] s (suc n) l e = ap (λ u. not (is_more u)) (cuts_none n)
uproots_reached (x ∷ out) s (suc n) l e = ap (λ u. not (is_more (cuts n u))) (all_but_last_push (x ∷ out) s)

or_false : (r : Bool) → (r || false) ≡ r
or_false true = refl
or_false false = refl

-- a segment that is taken back
uproots_cut : (r : Bool) (out : List (List ℕ)) (l : Remaining)
    → ((r || is_one out) || uproots (all_but_last out) l) ≡ (r || uproots out (record { double_dots = suc l.double_dots; kept = l.kept; removed = l.removed }))
uproots_cut true [] l = refl
uproots_cut false [] l = refl
uproots_cut true (x ∷ []) l = refl
uproots_cut false (x ∷ []) l = ap (λ u. not (is_more u)) (sym (cuts_none l.double_dots))
uproots_cut true (x ∷ y ∷ out) l = refl
uproots_cut false (x ∷ y ∷ out) l = refl

rooted_by : (r : Bool) (out ss : List (List ℕ)) → rooted_after r out ss ≡ (r || uproots out (remaining_of ss))
rooted_by r [] [] = sym (or_false r)
rooted_by r (x ∷ out) [] = sym (or_false r)
rooted_by r out (s ∷ ss) = by_kind (is_single_dot s) (is_double_dot s) (remaining_of ss) (λ q o. rooted_by q o ss)
  where
    by_kind : (v w : Bool) (l : Remaining) → ((q : Bool) (o : List (List ℕ)) → rooted_after q o ss ≡ (q || uproots o l))
        → cond v (rooted_after r out ss) (cond w (rooted_after (r || is_one out) (all_but_last out) ss) (rooted_after r (out ++ s ∷ []) ss))
        ≡ (r || uproots out (cond v l (cond w (record { double_dots = suc l.double_dots; kept = l.kept; removed = l.removed }) (process_plain s l.double_dots l))))
    by_kind true w l h = h r out
    by_kind false true l h = h (r || is_one out) (all_but_last out) ∙ uproots_cut r out l
    by_kind false false l h =
        h r (out ++ s ∷ []) ∙ ap (λ v. r || v) (uproots_push out s l ∙ uproots_reached out s l.double_dots l refl)

pub rooted_left : (r : Bool) (ss : List (List ℕ)) → rooted_after r [] ss ≡ (r || (remaining_of ss).removed)
rooted_left r ss = rooted_by r [] ss
