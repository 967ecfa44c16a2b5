-- Normal forms of a base's and a reference's path, and their merged path without dot segments.
use Rattle.std.proofs.Common.{◌≡◌, ℕ, ◌+◌, ◌<◌, ◌≤◌, Bool, true, false, not, cond, List, [], ◌∷◌, ◌++◌, suc, length, refl, sym, ap, ◌∙◌, subst, arith, ◌&&◌}
use Rattle.std.proofs.Common.{◌||◌, append-nil, append_assoc, length-append}
use Rattle.std.specs.Prelude.{reverse}
use Rattle.std.proofs.lemmas.Bool.{false≢true, or_parts}
use Rattle.std.proofs.lemmas.List.{reverse-append}
use Rattle.uriparse_text.specs.Bytes.{dot}
use Rattle.uriparse_path.specs.Path.{PathParts, IsListed, starts_with_empty_segment, respelled}
use Rattle.uriparse_path.specs.Dots.{is_single_dot, is_double_dot, is_dot_segment, has_dot_segment, all_but_last, replay, rooted_after, replayed}
use Rattle.uriparse_path.specs.Relative.{is_last, closed, needs_leading_dot, with_leading_dot, filled, put, put_all, reduced}
use Rattle.uriparse_path.specs.Normal.{canonical_path, stays_relative, pnormal}
use Rattle.uriparse_path.proofs.lemmas.text.PathTextLemmas.{listed-respelled}
use Rattle.uriparse_text.proofs.lemmas.canonical.DotLemmas.{empty_single, empty_double}
use Rattle.uriparse_path.proofs.lemmas.dots.DotSegmentLemmas.{dot_single, neither, no_dot, not_both, double_dot}
use Rattle.uriparse_path.proofs.lemmas.normal.DeletionLemmas.{put_all-append, put_plain}
use Rattle.uriparse_path.proofs.lemmas.normal.RelativeFormLemmas.{shaped}
use Rattle.uriparse_path.proofs.lemmas.normal.RelativeLengthLemmas.{last_push, Pushed, pushed}
use Rattle.uriparse_path.proofs.lemmas.normal.NormalFormLemmas.{listed_replayed, pnormal_dots, pnormal_plain, spelled_canonical_undot, respelled-canonical, replay_kept}
use Rattle.uriparse_path.proofs.lemmas.normal.NormalFormLemmas.{rooted_kept}
use Rattle.uriparse_path.proofs.lemmas.normal.NormalFormLemmas.{has_dot-respelled, none_plain, plain_replayed, length_replay, length_cut}
use Rattle.uriparse_path.proofs.lemmas.normal.SpellingCommutesLemmas.{replayed-canonical, canonical_twice}

-- ---- the directory after which the segments come out, without the last one's empty segment

abbrev pub step : List (List ℕ) → List ℕ → List (List ℕ)
step out s = cond (is_single_dot s) out (cond (is_double_dot s) (all_but_last out) (out ++ s ∷ []))

abbrev pub walk : List (List ℕ) → List (List ℕ) → List (List ℕ)
walk out [] = out
walk out (s ∷ ss) = walk (step out s) ss

step_single : (out : List (List ℕ)) (s : List ℕ) → is_single_dot s ≡ true → step out s ≡ out
step_single out s h = rw h refl

pub step_double : (out : List (List ℕ)) (s : List ℕ) → is_double_dot s ≡ true → step out s ≡ all_but_last out
step_double out s h = rw (not_both s h, h) refl

pub step_plain : (out : List (List ℕ)) (s : List ℕ) → is_dot_segment s ≡ false → step out s ≡ out ++ s ∷ []
step_plain out s h = let n = neither s h in rw (n.0, n.1) refl

pub walk-append : (out a b : List (List ℕ)) → walk out (a ++ b) ≡ walk (walk out a) b
walk-append out [] b = refl
walk-append out (s ∷ a) b = walk-append (step out s) a b

pub all_but_last_push : (xs : List (List ℕ)) (x : List ℕ) → all_but_last (xs ++ x ∷ []) ≡ xs
all_but_last_push [] x = refl
all_but_last_push (y ∷ []) x = refl
all_but_last_push (y ∷ z ∷ xs) x = ap (λ u. y ∷ u) (all_but_last_push (z ∷ xs) x)

pub some_after : (a b : List (List ℕ)) → 0 < length b → 0 < length (a ++ b)
some_after a b h = omega (arith, length-append a b)

-- a segment that is not the last one makes a step
pub replay_more : (out : List (List ℕ)) (s : List ℕ) (ss : List (List ℕ)) → 0 < length ss → replay out (s ∷ ss) ≡ replay (step out s) ss
replay_more out s [] h = absurd (omega arith)
replay_more out s (r ∷ ss) h = by_kind (is_single_dot s) (is_double_dot s)
  where
    by_kind : (v w : Bool)
        → cond v (replay out (r ∷ ss)) (cond w (replay (all_but_last out) (r ∷ ss)) (replay (out ++ s ∷ []) (r ∷ ss)))
        ≡ replay (cond v out (cond w (all_but_last out) (out ++ s ∷ []))) (r ∷ ss)
    by_kind true w = refl
    by_kind false true = refl
    by_kind false false = refl

pub replay-append : (out a b : List (List ℕ)) → 0 < length b → replay out (a ++ b) ≡ replay (walk out a) b
replay-append out [] b h = refl
replay-append out (s ∷ a) b h = replay_more out s (a ++ b) (some_after a b h) ∙ replay-append (step out s) a b h

-- ---- a deletion does not change the directory

pub reverse_push : (s : List ℕ) (stack : List (List ℕ)) → reverse (s ∷ stack) ≡ reverse stack ++ s ∷ []
reverse_push s stack = reverse-append (s ∷ []) stack

walk_reverse : (out : List (List ℕ)) (s : List ℕ) (stack : List (List ℕ)) → walk out (reverse (s ∷ stack)) ≡ step (walk out (reverse stack)) s
walk_reverse out s stack = ap (walk out) (reverse_push s stack) ∙ walk-append out (reverse stack) (s ∷ [])

walk_put : (out stack : List (List ℕ)) (s : List ℕ) → walk out (reverse (put stack s)) ≡ step (walk out (reverse stack)) s
walk_put out [] s = by_single (is_single_dot s) refl
  where
    by_single : (v : Bool) → is_single_dot s ≡ v → walk out (reverse (cond v [] (s ∷ []))) ≡ step out s
    by_single true e = sym (step_single out s e)
    by_single false e = refl
walk_put out (t ∷ stack) s = by_kind (is_single_dot s) refl (is_double_dot s) refl (is_dot_segment t) refl
  where
    by_kind : (v : Bool) → is_single_dot s ≡ v → (w : Bool) → is_double_dot s ≡ w → (x : Bool) → is_dot_segment t ≡ x
        → walk out (reverse (cond v (t ∷ stack) (cond (w && not x) stack (s ∷ t ∷ stack)))) ≡ step (walk out (reverse (t ∷ stack))) s
    by_kind true e w f x g = sym (step_single (walk out (reverse (t ∷ stack))) s e)
    by_kind false e true f false g = sym (ap (λ u. step u s) (walk_reverse out t stack ∙ step_plain (walk out (reverse stack)) t g)
        ∙ step_double (walk out (reverse stack) ++ t ∷ []) s f ∙ all_but_last_push (walk out (reverse stack)) t)
    by_kind false e true f true g = walk_reverse out s (t ∷ stack)
    by_kind false e false f x g = walk_reverse out s (t ∷ stack)

walk_put_all : (out stack r : List (List ℕ)) → walk out (reverse (put_all stack r)) ≡ walk (walk out (reverse stack)) r
walk_put_all out stack [] = refl
walk_put_all out stack (s ∷ r) = walk_put_all out (put stack s) r ∙ ap (λ u. walk u r) (walk_put out stack s)

walk_reduced : (out r : List (List ℕ)) → walk out (reduced r) ≡ walk out r
walk_reduced out r = walk_put_all out [] r

-- ---- the last segment

pub replay_dot : (out : List (List ℕ)) (s : List ℕ) → is_dot_segment s ≡ true → replay out (s ∷ []) ≡ step out s ++ [] ∷ []
replay_dot out s h = by_kind (is_single_dot s) (is_double_dot s) h
  where
    by_kind : (v w : Bool) → (v || w) ≡ true
        → cond v (out ++ [] ∷ []) (cond w (all_but_last out ++ [] ∷ []) (out ++ s ∷ [])) ≡ cond v out (cond w (all_but_last out) (out ++ s ∷ [])) ++ [] ∷ []
    by_kind true w k = refl
    by_kind false true k = refl
    by_kind false false k = absurd (false≢true k)

replay_empty : (out : List (List ℕ)) → replay out ([] ∷ []) ≡ out ++ [] ∷ []
replay_empty out = rw (empty_single, empty_double) refl

-- ---- the leading "." vanishes

-- a "." with more after it is skipped
pub dot_gone : (out l : List (List ℕ)) → 0 < length l → replay out ((dot ∷ []) ∷ l) ≡ replay out l
dot_gone out [] h = absurd (omega arith)
dot_gone out (s ∷ l) h = rw dot_single refl

pub dot_gone_rooted : (a : Bool) (l : List (List ℕ)) → rooted_after a [] ((dot ∷ []) ∷ l) ≡ rooted_after a [] l
dot_gone_rooted a l = rw dot_single refl

leading_dot_gone : (out old new : List (List ℕ)) → 0 < length new → replay out (filled (with_leading_dot old new)) ≡ replay out new
leading_dot_gone out old [] h = absurd (omega arith)
leading_dot_gone out old (s ∷ ss) h = by_leading_dot (needs_leading_dot old (s ∷ ss))
  where
    by_leading_dot : (v : Bool) → replay out (filled (cond v ((dot ∷ []) ∷ s ∷ ss) (s ∷ ss))) ≡ replay out (s ∷ ss)
    by_leading_dot true = dot_gone out (s ∷ ss) (omega arith)
    by_leading_dot false = refl

-- ---- the relative normal form is replayed as its source

last_of : (p : List ℕ → Bool) (l : List (List ℕ)) (is : Pushed l) → is_last p l ≡ p is.last
last_of p l is = ap (is_last p) is.whole ∙ last_push p is.front is.last

closed_dot : (out old m : List (List ℕ)) → replay out (filled (with_leading_dot old (closed true m))) ≡ walk out m ++ [] ∷ []
closed_dot out old [] = replay_empty out
closed_dot out old (s ∷ l) = by_double (is_last is_double_dot (s ∷ l)) refl
  where
    by_double : (v : Bool) → is_last is_double_dot (s ∷ l) ≡ v
        → replay out (filled (with_leading_dot old (cond (not v) ((s ∷ l) ++ [] ∷ []) (s ∷ l)))) ≡ walk out (s ∷ l) ++ [] ∷ []
    by_double true e =
        let is = pushed s l in
        let d : is_double_dot is.last ≡ true = sym (last_of is_double_dot (s ∷ l) is) ∙ e in
        leading_dot_gone out old (s ∷ l) (omega arith)
        ∙ ap (replay out) is.whole
        ∙ replay-append out is.front (is.last ∷ []) (omega arith)
        ∙ replay_dot (walk out is.front) is.last (double_dot is.last d)
        ∙ ap (λ u. u ++ [] ∷ []) (sym (ap (walk out) is.whole ∙ walk-append out is.front (is.last ∷ [])))
    by_double false e =
        leading_dot_gone out old ((s ∷ l) ++ [] ∷ []) (omega arith)
        ∙ replay-append out (s ∷ l) ([] ∷ []) (omega arith)
        ∙ replay_empty (walk out (s ∷ l))

closed_not : (m : List (List ℕ)) → closed false m ≡ m
closed_not [] = refl
closed_not (s ∷ m) = refl

reduced_push : (r : List (List ℕ)) (y : List ℕ) → is_dot_segment y ≡ false → reduced (r ++ y ∷ []) ≡ reduced r ++ y ∷ []
reduced_push r y h = ap reverse (put_all-append [] r (y ∷ []) ∙ put_plain (put_all [] r) y h) ∙ reverse_push y (put_all [] r)

pushed_same : (out r : List (List ℕ)) (y : List ℕ) → replay out (shaped (r ++ y ∷ [])) ≡ replay out (r ++ y ∷ [])
pushed_same out r y = by_dot (is_dot_segment y) refl
  where
    by_dot : (v : Bool) → is_dot_segment y ≡ v → replay out (shaped (r ++ y ∷ [])) ≡ replay out (r ++ y ∷ [])
    by_dot true e =
        ap (λ u. replay out (filled (with_leading_dot (r ++ y ∷ []) (closed u (reduced (r ++ y ∷ [])))))) (last_push is_dot_segment r y ∙ e)
        ∙ closed_dot out (r ++ y ∷ []) (reduced (r ++ y ∷ []))
        ∙ ap (λ u. u ++ [] ∷ []) (walk_reduced out (r ++ y ∷ []) ∙ walk-append out r (y ∷ []))
        ∙ sym (replay-append out r (y ∷ []) (omega arith) ∙ replay_dot (walk out r) y e)
    by_dot false e =
        ap (λ u. replay out (filled (with_leading_dot (r ++ y ∷ []) (closed u (reduced (r ++ y ∷ [])))))) (last_push is_dot_segment r y ∙ e)
        ∙ ap (λ u. replay out (filled (with_leading_dot (r ++ y ∷ []) u))) (closed_not (reduced (r ++ y ∷ [])) ∙ reduced_push r y e)
        ∙ leading_dot_gone out (r ++ y ∷ []) (reduced r ++ y ∷ []) (some_after (reduced r) (y ∷ []) (omega arith))
        ∙ replay-append out (reduced r) (y ∷ []) (omega arith)
        ∙ ap (λ u. replay u (y ∷ [])) (walk_reduced out r)
        ∙ sym (replay-append out r (y ∷ []) (omega arith))

pub shaped_same : (out r : List (List ℕ)) → 0 < length r → replay out (shaped r) ≡ replay out r
shaped_same out [] h = absurd (omega arith)
shaped_same out (s ∷ r) h = let is = pushed s r in subst (λ u. replay out (shaped u) ≡ replay out u) (sym is.whole) (pushed_same out is.front is.last)

-- ---- the directory of a replayed base

directory_pushed : (out b : List (List ℕ)) (x : List ℕ) → is_double_dot x ≡ false → all_but_last (replay out (b ++ x ∷ [])) ≡ walk out b
directory_pushed out b x h = ap all_but_last (replay-append out b (x ∷ []) (omega arith)) ∙ by_single (is_single_dot x)
  where
    by_single : (v : Bool)
        → all_but_last (cond v (walk out b ++ [] ∷ []) (cond (is_double_dot x) (all_but_last (walk out b) ++ [] ∷ []) (walk out b ++ x ∷ []))) ≡ walk out b
    by_single true = all_but_last_push (walk out b) []
    by_single false = rw h (all_but_last_push (walk out b) x)

directory_replayed : (b : List (List ℕ)) → is_last is_double_dot b ≡ false → all_but_last (replay [] b) ≡ walk [] (all_but_last b)
directory_replayed [] h = refl
directory_replayed (s ∷ b) h =
    let is = pushed s b in
    let k : is_double_dot is.last ≡ false = sym (last_of is_double_dot (s ∷ b) is) ∙ h in
    subst (λ u. all_but_last (replay [] u) ≡ walk [] (all_but_last u)) (sym is.whole) (directory_pushed [] is.front is.last k
    ∙ ap (walk []) (sym (all_but_last_push is.front is.last)))

-- what a walk leaves has no dot segment, so a further walk keeps it
no_dots_push : (out : List (List ℕ)) (s : List ℕ) → has_dot_segment out ≡ false → is_dot_segment s ≡ false → has_dot_segment (out ++ s ∷ []) ≡ false
no_dots_push [] s h k = rw k refl
no_dots_push (r ∷ out) s h k = let parts = or_parts (is_dot_segment r) (has_dot_segment out) h in rw (parts.0, no_dots_push out s parts.1 k) refl

no_dots_cut : (out : List (List ℕ)) → has_dot_segment out ≡ false → has_dot_segment (all_but_last out) ≡ false
no_dots_cut [] h = refl
no_dots_cut (s ∷ []) h = refl
no_dots_cut (s ∷ r ∷ out) h = let parts = or_parts (is_dot_segment s) (has_dot_segment (r ∷ out)) h in rw (parts.0, no_dots_cut (r ∷ out) parts.1) refl

no_dots_step : (out : List (List ℕ)) (s : List ℕ) → has_dot_segment out ≡ false → has_dot_segment (step out s) ≡ false
no_dots_step out s h = by_kind (is_single_dot s) refl (is_double_dot s) refl
  where
    by_kind : (v : Bool) → is_single_dot s ≡ v → (w : Bool) → is_double_dot s ≡ w
        → has_dot_segment (cond v out (cond w (all_but_last out) (out ++ s ∷ []))) ≡ false
    by_kind true e w f = h
    by_kind false e true f = no_dots_cut out h
    by_kind false e false f = no_dots_push out s h (no_dot s e f)

pub no_dots_walk : (out ss : List (List ℕ)) → has_dot_segment out ≡ false → has_dot_segment (walk out ss) ≡ false
no_dots_walk out [] h = h
no_dots_walk out (s ∷ ss) h = no_dots_walk (step out s) ss (no_dots_step out s h)

pub walk_plain : (out ss : List (List ℕ)) → has_dot_segment ss ≡ false → walk out ss ≡ out ++ ss
walk_plain out [] h = sym (append-nil out)
walk_plain out (s ∷ ss) h =
    let parts = or_parts (is_dot_segment s) (has_dot_segment ss) h in
    ap (λ u. walk u ss) (step_plain out s parts.0) ∙ walk_plain (out ++ s ∷ []) ss parts.1 ∙ append_assoc out (s ∷ []) ss

walk_twice : (b : List (List ℕ)) → walk [] (walk [] b) ≡ walk [] b
walk_twice b = walk_plain [] (walk [] b) (no_dots_walk [] b refl)

-- ---- the law on lists

some_filled : (l : List (List ℕ)) → 0 < length (filled l)
some_filled [] = omega arith
some_filled (s ∷ l) = omega arith

pub merged_same : (b r : List (List ℕ)) → is_last is_double_dot b ≡ false → 0 < length r
    → replay [] (all_but_last b ++ r) ≡ replay [] (all_but_last (replay [] b) ++ shaped r)
merged_same b r h n =
    replay-append [] (all_but_last b) r n
    ∙ sym (shaped_same (walk [] (all_but_last b)) r n)
    ∙ sym (ap (λ u. replay [] (u ++ shaped r)) (directory_replayed b h)
    ∙ replay-append [] (walk [] (all_but_last b)) (shaped r) (some_filled (with_leading_dot r (closed (is_last is_dot_segment r) (reduced r))))
    ∙ ap (λ u. replay u (shaped r)) (walk_twice (all_but_last b)))

-- ---- paths without dot segments

-- the path of the text without dot segments
abbrev pub undotted : PathParts → PathParts
undotted p = respelled (replayed p)

pub listed_undotted : (p : PathParts) → IsListed p.segments → IsListed (undotted p).segments
listed_undotted p is = listed-respelled (replayed p) (listed_replayed p is)

pub no_dots_undotted : (p : PathParts) → IsListed p.segments → has_dot_segment (undotted p).segments ≡ false
no_dots_undotted p is = has_dot-respelled (replayed p) ∙ none_plain (replay [] p.segments) (plain_replayed p is)

pub respelled_twice : (p : PathParts) → respelled (respelled p) ≡ respelled p
respelled_twice p = by_shape p.absolute p.segments
  where
    by_shape : (a : Bool) (l : List (List ℕ))
        → respelled (respelled (record { absolute = a; segments = l })) ≡ respelled (record { absolute = a; segments = l })
    by_shape true l = refl
    by_shape false [] = refl
    by_shape false ([] ∷ []) = refl
    by_shape false ([] ∷ r ∷ l) = refl
    by_shape false ((b ∷ s) ∷ l) = refl

pub undotted_kept : (p : PathParts) → has_dot_segment p.segments ≡ false → undotted p ≡ respelled p
undotted_kept p h =
    ap (λ v. respelled (record { absolute = v; segments = replay [] p.segments })) (rooted_kept p.absolute [] p.segments h)
    ∙ ap (λ l. respelled (record { absolute = p.absolute; segments = l })) (replay_kept [] p.segments h)

pub undotted_twice : (p : PathParts) → IsListed p.segments → undotted (undotted p) ≡ undotted p
undotted_twice p is = undotted_kept (undotted p) (no_dots_undotted p is) ∙ respelled_twice (replayed p)

pub undotted-canonical : (p : PathParts) → IsListed p.segments → undotted (canonical_path p) ≡ canonical_path (undotted p)
undotted-canonical p is = ap respelled (replayed-canonical p is.each) ∙ respelled-canonical (replayed p)

pub canonical_path_twice : (p : PathParts) → IsListed p.segments → canonical_path (canonical_path p) ≡ canonical_path p
canonical_path_twice p is = ap (λ l. record { absolute = p.absolute; segments = l }) (canonical_twice p.segments is.each)

-- a normal form that is not a relative one
pub pnormal_is : (p : PathParts) (r : Bool) → IsListed p.segments → respelled p ≡ p → stays_relative p r ≡ false → pnormal p r ≡ canonical_path (undotted p)
pnormal_is p r is h e = by_dots (has_dot_segment p.segments) refl
  where
    by_dots : (v : Bool) → has_dot_segment p.segments ≡ v → pnormal p r ≡ canonical_path (undotted p)
    by_dots true k = pnormal_dots p r e k ∙ spelled_canonical_undot p is
    by_dots false k = pnormal_plain p r e k ∙ sym (ap canonical_path (undotted_kept p k ∙ h))

pub dot_undotted : (a : Bool) (l : List (List ℕ)) → 0 < length l
    → undotted (record { absolute = a; segments = (dot ∷ []) ∷ l }) ≡ undotted (record { absolute = a; segments = l })
dot_undotted a l h =
    ap (λ v. respelled (record { absolute = v; segments = replay [] ((dot ∷ []) ∷ l) })) (dot_gone_rooted a l)
    ∙ ap (λ m. respelled (record { absolute = rooted_after a [] l; segments = m })) (dot_gone [] l h)

-- ---- a path that comes to begin with an empty segment, and has more, has become shorter

hidden_popped : (s : List ℕ) (out l : List (List ℕ)) → starts_with_empty_segment (s ∷ out) ≡ false → 0 < length s → starts_with_empty_segment (replay (s ∷ out) l) ≡ true
    → length (replay (s ∷ out) l) ≤ length out + length l
hidden_popped s out [] h n k = absurd (false≢true (sym h ∙ k))
hidden_popped [] out (r ∷ l) h n k = absurd (omega arith)
hidden_popped (b ∷ s) out (r ∷ []) h n k = absurd (by_kind (is_single_dot r) (is_double_dot r) out k)
  where
    by_kind : (v w : Bool) (o : List (List ℕ))
        → starts_with_empty_segment (cond v (((b ∷ s) ∷ o) ++ [] ∷ []) (cond w (all_but_last ((b ∷ s) ∷ o) ++ [] ∷ []) (((b ∷ s) ∷ o) ++ r ∷ []))) ≡ true → ⊥
    by_kind true w o e = false≢true e
    by_kind false true [] e = false≢true e
    by_kind false true (t ∷ o) e = false≢true e
    by_kind false false o e = false≢true e
hidden_popped (b ∷ s) out (r ∷ q ∷ l) h n k =
    by_kind (is_single_dot r) (is_double_dot r) (length_replay ((b ∷ s) ∷ out) (q ∷ l)) (length_replay (all_but_last ((b ∷ s) ∷ out)) (q ∷ l))
    (hidden_popped (b ∷ s) (out ++ r ∷ []) (q ∷ l) refl (omega arith)) k
  where
    by_kind : (v w : Bool) → length (replay ((b ∷ s) ∷ out) (q ∷ l)) ≤ length ((b ∷ s) ∷ out) + length (q ∷ l)
        → length (replay (all_but_last ((b ∷ s) ∷ out)) (q ∷ l)) ≤ length (all_but_last ((b ∷ s) ∷ out)) + length (q ∷ l)
        → (starts_with_empty_segment (replay ((b ∷ s) ∷ (out ++ r ∷ [])) (q ∷ l)) ≡ true
        → length (replay ((b ∷ s) ∷ (out ++ r ∷ [])) (q ∷ l)) ≤ length (out ++ r ∷ []) + length (q ∷ l))
        → starts_with_empty_segment (cond v (replay ((b ∷ s) ∷ out) (q ∷ l))
        (cond w (replay (all_but_last ((b ∷ s) ∷ out)) (q ∷ l)) (replay (((b ∷ s) ∷ out) ++ r ∷ []) (q ∷ l)))) ≡ true
        → length (cond v (replay ((b ∷ s) ∷ out) (q ∷ l))
        (cond w (replay (all_but_last ((b ∷ s) ∷ out)) (q ∷ l)) (replay (((b ∷ s) ∷ out) ++ r ∷ []) (q ∷ l)))) ≤ length out + length (r ∷ q ∷ l)
    by_kind true w x y z e = omega (arith, x)
    by_kind false true x y z e = let c = length_cut ((b ∷ s) ∷ out) in omega (arith, y, c)
    by_kind false false x y z e = let g = z e in omega (arith, g, length-append out (r ∷ []))

pub shorter : (l : List (List ℕ)) → starts_with_empty_segment l ≡ false → starts_with_empty_segment (replay [] l) ≡ true → suc (length (replay [] l)) ≤ length l
shorter [] h k = absurd (false≢true k)
shorter (s ∷ []) h k = absurd (by_kind (is_single_dot s) (is_double_dot s) s k)
  where
    by_kind : (v w : Bool) (u : List ℕ) → starts_with_empty_segment (cond v ([] ++ [] ∷ []) (cond w (all_but_last [] ++ [] ∷ []) ([] ++ u ∷ []))) ≡ true → ⊥
    by_kind true w u e = false≢true e
    by_kind false true u e = false≢true e
    by_kind false false [] e = false≢true e
    by_kind false false (b ∷ u) e = false≢true e
shorter ([] ∷ r ∷ l) h k = absurd (false≢true (sym h))
shorter ((b ∷ s) ∷ r ∷ l) h k =
    by_kind (is_single_dot (b ∷ s)) (is_double_dot (b ∷ s)) (length_replay [] (r ∷ l)) (hidden_popped (b ∷ s) [] (r ∷ l) refl (omega arith)) k
  where
    by_kind : (v w : Bool) → length (replay [] (r ∷ l)) ≤ 0 + length (r ∷ l)
        → (starts_with_empty_segment (replay ((b ∷ s) ∷ []) (r ∷ l)) ≡ true → length (replay ((b ∷ s) ∷ []) (r ∷ l)) ≤ 0 + length (r ∷ l))
        → starts_with_empty_segment (cond v (replay [] (r ∷ l)) (cond w (replay [] (r ∷ l)) (replay ((b ∷ s) ∷ []) (r ∷ l)))) ≡ true
        → suc (length (cond v (replay [] (r ∷ l)) (cond w (replay [] (r ∷ l)) (replay ((b ∷ s) ∷ []) (r ∷ l))))) ≤ length ((b ∷ s) ∷ r ∷ l)
    by_kind true w x z e = omega (arith, x)
    by_kind false true x z e = omega (arith, x)
    by_kind false false x z e = let g = z e in omega (arith, g)

-- so there is room for a leading "."
pub room : (p : PathParts) → starts_with_empty_segment p.segments ≡ false → starts_with_empty_segment (undotted p).segments ≡ true → suc (length (undotted p).segments) ≤ length p.segments
room p h k = by_shape (rooted_after p.absolute [] p.segments) (replay [] p.segments) (shorter p.segments h) (length_replay [] p.segments) k
  where
    by_shape : (a : Bool) (l : List (List ℕ)) → (starts_with_empty_segment l ≡ true → suc (length l) ≤ length p.segments) → length l ≤ 0 + length p.segments
        → starts_with_empty_segment (respelled (record { absolute = a; segments = l })).segments ≡ true
        → suc (length (respelled (record { absolute = a; segments = l })).segments) ≤ length p.segments
    by_shape true l f g e = f e
    by_shape false [] f g e = absurd (false≢true e)
    by_shape false ([] ∷ []) f g e = absurd (false≢true e)
    by_shape false ([] ∷ r ∷ l) f g e = let x = f refl in omega (arith, x)
    by_shape false ((b ∷ s) ∷ l) f g e = absurd (false≢true e)
