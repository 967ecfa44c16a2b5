-- Targets of references that stay below their bases.
use Rattle.std.proofs.Common.{◌≡◌, ℕ, zero, suc, ◌<◌, ◌≤◌, Bool, true, false, cond, not, ◌&&◌, ◌||◌, List, [], ◌∷◌, ◌++◌, length, length-append, map, Option, Some, None, refl, sym, ap, subst, ◌∙◌, arith, append-nil, append_assoc}
use Rattle.std.specs.Prelude.{is_some, nat_le, if◌then◌else◌}
use Rattle.std.specs.List.{list_all, list_any}
use Rattle.std.proofs.lemmas.Bool.{and_parts, false≢true, not-true, or_from, or_parts}
use Rattle.std.proofs.lemmas.List.{length-map, map-append}
use Rattle.uriparse_text.specs.Bytes.{dot}
use Rattle.uriparse_text.specs.Ambiguous.{is_ambiguous}
use Rattle.uriparse_text.specs.Canonical.{canonical}
use Rattle.uriparse_text.proofs.lemmas.tokens.CodingLemmas.{decoded-nil}
use Rattle.uriparse_text.proofs.lemmas.tokens.TokenLemmas.{tokens-nil}
use Rattle.uriparse_text.proofs.lemmas.canonical.DotLemmas.{canonical-dots, canonical-nil, double_is, double_of}
use Rattle.uriparse_path.specs.Path.{IsListed, PathParts, has_hidden_root, is_rooted, max_segments, pieces, respelled, starts_with_empty_segment, text}
use Rattle.uriparse_path.specs.Dots.{all_but_last, is_dot_segment, is_double_dot, is_single_dot, replay, replayed}
use Rattle.uriparse_path.specs.Merge.{merged}
use Rattle.uriparse_path.specs.Normal.{canonical_path, pnormal}
use Rattle.uriparse_path.specs.Relative.{is_last, relative_normal}
use Rattle.uriparse_path.specs.Remaining.{Remaining, nothing, process_all, process_plain, remaining_of, with_end}
use Rattle.uriparse_path.specs.Within.{AreWithin, between_slashes, has_ambiguous, led, removes_unclear}
use Rattle.uriparse_path.proofs.lemmas.dots.ReplayLemmas.{replay_some}
use Rattle.uriparse_path.proofs.lemmas.left.BackwardLemmas.{process_all-append}
use Rattle.uriparse_path.proofs.lemmas.left.PathWithinLemmas.{left-normal, within_from}
use Rattle.uriparse_path.proofs.lemmas.left.RemainingLemmas.{cuts, replay_left, walk_left}
use Rattle.uriparse_path.proofs.lemmas.merge.MergedNormalFormLemmas.{all_but_last_push, listed_undotted, no_dots_undotted, pnormal_is, replay-append, respelled_twice, shaped_same, step, undotted, undotted_twice, walk, walk-append}
use Rattle.uriparse_path.proofs.lemmas.normal.NormalFormLemmas.{pnormal_relative}
use Rattle.uriparse_path.proofs.lemmas.normal.RelativeFormLemmas.{relative_is, shaped}
use Rattle.uriparse_path.proofs.lemmas.normal.RelativeLengthLemmas.{last_push, pushed}
use Rattle.uriparse_authority.specs.Authority.{AuthorityParts}
use Rattle.uriparse_reference.specs.Normal.{dot_prefixed}
use Rattle.uriparse_reference.specs.Reference.{Parts, Valid}
use Rattle.uriparse_reference.specs.Target.{dots_removed, is_empty, is_merged, merge, target, target_of}
use Rattle.uriparse_reference.proofs.lemmas.edits.PathRuleLemmas.{Fits, fits_of, formed_shown, shielded_fits}
use Rattle.uriparse_reference.proofs.lemmas.normalizing.NormalFormLemmas.{pnormal_shielded}
use Rattle.uriparse_reference.proofs.lemmas.resolving.MergedPathLemmas.{IsFollowing, fits_merged, merged_spelled}
use Rattle.uriparse_reference.proofs.lemmas.resolving.ValidTargetLemmas.{chosen, dots_removed-merged, fits_undotted, following, le_from}
use Rattle.uriparse.specs.Within.{IsWithin}
use Rattle.uriparse.proofs.lemmas.WithinLawLemmas.{are_within_itself, undotted_clear}

-- ---- segments without ".." after others

-- what they leave after any segments
added : List (List ℕ) → List (List ℕ)
added [] = []
added (s ∷ []) = if is_single_dot s then [] ∷ [] else s ∷ []
added (s ∷ r ∷ ss) = if is_single_dot s then added (r ∷ ss) else s ∷ added (r ∷ ss)

replay_added : (out ss : List (List ℕ)) → list_any is_double_dot ss ≡ false → replay out ss ≡ out ++ added ss
unfolding added
replay_added out [] h = sym (append-nil out)
replay_added out (s ∷ []) h = by_kind (is_single_dot s) (is_double_dot s) (or_parts (is_double_dot s) false h).0
  where
    by_kind : (v w : Bool) → w ≡ false → cond v (out ++ [] ∷ []) (cond w (all_but_last out ++ [] ∷ []) (out ++ s ∷ [])) ≡ out ++ cond v ([] ∷ []) (s ∷ [])
    by_kind true w e = refl
    by_kind false true e = absurd (false≢true (sym e))
    by_kind false false e = refl
replay_added out (s ∷ r ∷ ss) h =
    let both = or_parts (is_double_dot s) (list_any is_double_dot (r ∷ ss)) h in
    by_kind (is_single_dot s) (is_double_dot s) both.0 (replay_added out (r ∷ ss) both.1) (replay_added (out ++ s ∷ []) (r ∷ ss) both.1)
  where
    by_kind : (v w : Bool) → w ≡ false → replay out (r ∷ ss) ≡ out ++ added (r ∷ ss) → replay (out ++ s ∷ []) (r ∷ ss) ≡ (out ++ s ∷ []) ++ added (r ∷ ss)
        → cond v (replay out (r ∷ ss)) (cond w (replay (all_but_last out) (r ∷ ss)) (replay (out ++ s ∷ []) (r ∷ ss))) ≡ out ++ cond v (added (r ∷ ss)) (s ∷ added (r ∷ ss))
    by_kind true w e i j = i
    by_kind false true e i j = absurd (false≢true (sym e))
    by_kind false false e i j = j ∙ append_assoc out (s ∷ []) (added (r ∷ ss))

some_added : (ss : List (List ℕ)) → 0 < length ss → 0 < length (added ss)
unfolding added
some_added [] h = h
some_added (s ∷ []) h = by_kind (is_single_dot s)
  where
    by_kind : (v : Bool) → 0 < length (cond v ([] ∷ []) (s ∷ []))
    by_kind true = omega arith
    by_kind false = omega arith
some_added (s ∷ r ∷ ss) h = by_kind (is_single_dot s) (some_added (r ∷ ss) (omega arith))
  where
    by_kind : (v : Bool) → 0 < length (added (r ∷ ss)) → 0 < length (cond v (added (r ∷ ss)) (s ∷ added (r ∷ ss)))
    by_kind true e = e
    by_kind false e = omega arith

plain_empty : is_ambiguous (canonical []) ≡ false
unfolding is_ambiguous
plain_empty = rw (canonical-nil, tokens-nil, decoded-nil [] refl) refl

plain_added : (ss : List (List ℕ)) → has_ambiguous (map canonical ss) ≡ false → has_ambiguous (map canonical (added ss)) ≡ false
unfolding added
plain_added [] h = h
plain_added (s ∷ []) h = by_kind (is_single_dot s)
  where
    by_kind : (v : Bool) → has_ambiguous (map canonical (cond v ([] ∷ []) (s ∷ []))) ≡ false
    by_kind true = or_from (is_ambiguous (canonical [])) false plain_empty refl
    by_kind false = h
plain_added (s ∷ r ∷ ss) h =
    let both = or_parts (is_ambiguous (canonical s)) (has_ambiguous (map canonical (r ∷ ss))) h in by_kind (is_single_dot s) both.0 (plain_added (r ∷ ss) both.1)
  where
    by_kind : (v : Bool) → is_ambiguous (canonical s) ≡ false → has_ambiguous (map canonical (added (r ∷ ss))) ≡ false
        → has_ambiguous (map canonical (cond v (added (r ∷ ss)) (s ∷ added (r ∷ ss)))) ≡ false
    by_kind true e k = k
    by_kind false e k = or_from (is_ambiguous (canonical s)) (has_ambiguous (map canonical (added (r ∷ ss)))) e k

none_double : (ss : List (List ℕ)) → list_any is_double_dot (map canonical ss) ≡ false → list_any is_double_dot ss ≡ false
none_double [] h = refl
none_double (s ∷ ss) h =
    let both = or_parts (is_double_dot (canonical s)) (list_any is_double_dot (map canonical ss)) h in
    or_from (is_double_dot s) (list_any is_double_dot ss) (by_kind (is_double_dot s) refl both.0) (none_double ss both.1)
  where
    by_kind : (v : Bool) → is_double_dot s ≡ v → is_double_dot (canonical s) ≡ false → v ≡ false
    by_kind false e k = refl
    by_kind true e k = absurd (false≢true (sym k ∙ ap is_double_dot (double_is s e) ∙ double_of (dot ∷ dot ∷ []) canonical-dots))

-- ---- none of those others is taken back

replay_last : (out : List (List ℕ)) (s : List ℕ) → replay out (s ∷ []) ≡ with_end (is_dot_segment s) (step out s)
replay_last out s = by_kind (is_single_dot s) (is_double_dot s)
  where
    by_kind : (v w : Bool) → cond v (out ++ [] ∷ []) (cond w (all_but_last out ++ [] ∷ []) (out ++ s ∷ []))
        ≡ with_end (v || w) (cond v out (cond w (all_but_last out) (out ++ s ∷ [])))
    by_kind true w = refl
    by_kind false true = refl
    by_kind false false = refl

replay_walked : (out front : List (List ℕ)) (s : List ℕ) → replay out (front ++ s ∷ []) ≡ with_end (is_dot_segment s) (walk out (front ++ s ∷ []))
replay_walked out front s =
    replay-append out front (s ∷ []) (omega arith) ∙ replay_last (walk out front) s ∙ ap (with_end (is_dot_segment s)) (sym (walk-append out front (s ∷ [])))

same_walk : (o p ss : List (List ℕ)) → walk o ss ≡ walk p ss → 0 < length ss → replay o ss ≡ replay p ss
same_walk o p [] e h = absurd (omega (arith, h))
same_walk o p (s ∷ ss) e h =
    let is = pushed s ss in
    ap (replay o) is.whole
    ∙ replay_walked o is.front is.last
    ∙ ap (with_end (is_dot_segment is.last)) (sym (ap (walk o) is.whole) ∙ e ∙ ap (walk p) is.whole)
    ∙ sym (replay_walked p is.front is.last)
    ∙ sym (ap (replay p) is.whole)

none_back : (ss : List (List ℕ)) → 0 < length ss → list_any is_double_dot (shaped ss) ≡ false → (remaining_of ss).double_dots ≡ 0
none_back ss h k = by_count (remaining_of ss).double_dots refl
  where
    by_count : (n : ℕ) → (remaining_of ss).double_dots ≡ n → n ≡ 0
    by_count zero e = refl
    by_count (suc n) e =
        let one : replay ([] ∷ []) ss ≡ [] ∷ added (shaped ss) = sym (shaped_same ([] ∷ []) ss h) ∙ replay_added ([] ∷ []) (shaped ss) k in
        let none : replay [] ss ≡ added (shaped ss) = sym (shaped_same [] ss h) ∙ replay_added [] (shaped ss) k in
        let walks : walk ([] ∷ []) ss ≡ walk [] ss =
        walk_left ([] ∷ []) ss ∙ ap (λ m. cuts m ([] ∷ []) ++ (remaining_of ss).kept) e
        ∙ sym (walk_left [] ss ∙ ap (λ m. cuts m [] ++ (remaining_of ss).kept) e) in
        let sizes : suc (length (added (shaped ss))) ≡ length (added (shaped ss)) = ap length (sym one ∙ same_walk ([] ∷ []) [] ss walks h ∙ none) in
        absurd (omega (arith, sizes))

-- ---- whether a slash precedes them

plain_alike : (s : List ℕ) (m n : ℕ) (k l : Remaining) → m ≡ n
    → ((process_plain s m k).double_dots ≡ (process_plain s n l).double_dots) × ((process_plain s m k).removed ≡ (process_plain s n l).removed)
plain_alike s zero zero k l e = (refl, refl)
plain_alike s zero (suc n) k l e = absurd (omega (arith, e))
plain_alike s (suc m) zero k l e = absurd (omega (arith, e))
plain_alike s (suc m) (suc n) k l e = (omega (arith, e), refl)

-- after segments that take none of these back, what is removed goes by these
process_removed : (ss : List (List ℕ)) (l : Remaining) → l.double_dots ≡ 0
    → ((process_all ss l).double_dots ≡ (remaining_of ss).double_dots) × ((process_all ss l).removed ≡ cond (list_all is_dot_segment ss) l.removed (remaining_of ss).removed)
process_removed [] l e = (e, refl)
process_removed (s ∷ ss) l e = let have = process_removed ss l e in by_kind (is_single_dot s) (is_double_dot s) (process_all ss l) (remaining_of ss) have.0 have.1
  where
    one : Bool → Bool → Remaining → Remaining
    one v w k = cond v k (cond w (record { double_dots = suc k.double_dots; kept = k.kept; removed = k.removed }) (process_plain s k.double_dots k))

    by_kind : (v w : Bool) (j k : Remaining) → j.double_dots ≡ k.double_dots → j.removed ≡ cond (list_all is_dot_segment ss) l.removed k.removed
        → ((one v w j).double_dots ≡ (one v w k).double_dots) × ((one v w j).removed ≡ cond ((v || w) && list_all is_dot_segment ss) l.removed (one v w k).removed)
    by_kind true w j k f g = (f, g)
    by_kind false true j k f g = (ap suc f, g)
    by_kind false false j k f g = plain_alike s j.double_dots k.double_dots j k f

dots_alone : (ss : List (List ℕ)) → list_all is_dot_segment ss ≡ true → walk [] ss ≡ []
dots_alone [] h = refl
dots_alone (s ∷ ss) h =
    let both = and_parts (is_dot_segment s) (list_all is_dot_segment ss) h in
    ap (λ out. walk out ss) (by_kind (is_single_dot s) (is_double_dot s) both.0) ∙ dots_alone ss both.1
  where
    by_kind : (v w : Bool) → (v || w) ≡ true → cond v [] (cond w (all_but_last []) ([] ++ s ∷ [])) ≡ []
    by_kind true w e = refl
    by_kind false true e = refl
    by_kind false false e = absurd (false≢true e)

one_waits : (s : List ℕ) → is_double_dot s ≡ false → ((remaining_of (s ∷ [])).double_dots ≡ 0) × ((remaining_of (s ∷ [])).removed ≡ false)
one_waits s h = by_kind (is_single_dot s) (is_double_dot s) h
  where
    by_kind : (v w : Bool) → w ≡ false
        → ((cond v nothing (cond w (record { double_dots = 1; kept = []; removed = false }) (process_plain s 0 nothing))).double_dots ≡ 0)
        × ((cond v nothing (cond w (record { double_dots = 1; kept = []; removed = false }) (process_plain s 0 nothing))).removed ≡ false)
    by_kind true w e = (refl, refl)
    by_kind false true e = absurd (false≢true (sym e))
    by_kind false false e = (refl, refl)

-- ---- the lists

led-append : (v : Bool) (a b : List (List ℕ)) → led v (a ++ b) ≡ led v a ++ b
led-append true a b = refl
led-append false a b = refl

below : (v : Bool) (ds : List (List ℕ)) (last : List ℕ) (rest : List (List ℕ)) → 0 < length rest → has_ambiguous (map canonical rest) ≡ false
    → 1 < length (map canonical (led v (ds ++ last ∷ []))) → AreWithin (map canonical (led v (ds ++ rest))) (map canonical (led v (ds ++ last ∷ [])))
below v ds last rest some plain more =
    let base : led v (ds ++ last ∷ []) ≡ led v ds ++ last ∷ [] = led-append v ds (last ∷ []) in
    let long : 1 < length (led v ds ++ last ∷ []) = subst (λ n. 1 < n) (length-map (led v (ds ++ last ∷ [])) canonical ∙ ap length base) more in
    within_from (led v (ds ++ rest)) (led v (ds ++ last ∷ [])) (led v ds) last base (record {
      rest = map canonical rest;
      begins = ap (map canonical) (led-append v ds rest) ∙ map-append canonical (led v ds) rest;
      some = subst (λ n. 0 < n) (sym (length-map rest canonical)) some;
      plain = plain;
    }) (λ none. absurd (omega (arith, long, none, length-append (led v ds) (last ∷ []))))

pub merged_below : (a : Bool) (front : List (List ℕ)) (last : List ℕ) (ss : List (List ℕ)) → is_double_dot last ≡ false → 0 < length ss
    → list_any is_double_dot (relative_normal ss) ≡ false → has_ambiguous (relative_normal ss) ≡ false
    → 1 < length (map canonical (led (a || (remaining_of (front ++ last ∷ [])).removed) (replay [] (front ++ last ∷ []))))
    → AreWithin (map canonical (led (a || (remaining_of (front ++ ss)).removed) (replay [] (front ++ ss))))
    (map canonical (led (a || (remaining_of (front ++ last ∷ [])).removed) (replay [] (front ++ last ∷ []))))
unfolding added
merged_below a front last ss h some none plain more =
    subst (λ l. AreWithin (map canonical (led vm l)) (map canonical (led vb (replay [] (front ++ last ∷ []))))) (sym target_is)
    (subst (λ l. AreWithin (map canonical (led vm (walk [] front ++ added (shaped ss)))) (map canonical (led vb l))) (sym base_is)
    (subst (λ v. AreWithin (map canonical (led v (walk [] front ++ added (shaped ss)))) (map canonical (led vb (walk [] front ++ final ∷ [])))) (sym flags)
    (below vb (walk [] front) final (added (shaped ss)) (some_added (shaped ss) some_shaped)
    (plain_added (shaped ss) (ap has_ambiguous (sym (relative_is ss)) ∙ plain)) (subst (λ l. 1 < length (map canonical (led vb l))) base_is more))))
  where
    vm : Bool
    vm = a || (remaining_of (front ++ ss)).removed

    vb : Bool
    vb = a || (remaining_of (front ++ last ∷ [])).removed

    final : List ℕ
    final = if is_single_dot last then [] else last

    shaped_none : list_any is_double_dot (shaped ss) ≡ false
    shaped_none = none_double (shaped ss) (ap (list_any is_double_dot) (sym (relative_is ss)) ∙ none)

    some_shaped : 0 < length (shaped ss)
    some_shaped = by_shape (shaped ss) (sym (shaped_same [] ss some))
      where
        by_shape : (l : List (List ℕ)) → replay [] ss ≡ replay [] l → 0 < length l
        by_shape [] e = absurd (omega (arith, ap length e, some_replayed))
          where
            some_replayed : 0 < length (replay [] ss)
            some_replayed = replay_some [] ss some
        by_shape (s ∷ l) e = omega arith

    final_is : added (last ∷ []) ≡ final ∷ []
    final_is = by_kind (is_single_dot last)
      where
        by_kind : (v : Bool) → cond v ([] ∷ []) (last ∷ []) ≡ cond v [] last ∷ []
        by_kind true = refl
        by_kind false = refl

    base_is : replay [] (front ++ last ∷ []) ≡ walk [] front ++ final ∷ []
    base_is =
        replay-append [] front (last ∷ []) (omega arith)
        ∙ replay_added (walk [] front) (last ∷ []) (or_from (is_double_dot last) false h refl)
        ∙ ap (λ l. walk [] front ++ l) final_is

    target_is : replay [] (front ++ ss) ≡ walk [] front ++ added (shaped ss)
    target_is = replay-append [] front ss some ∙ sym (shaped_same (walk [] front) ss some) ∙ replay_added (walk [] front) (shaped ss) shaped_none

    removed_by : (l : List (List ℕ)) → (remaining_of l).double_dots ≡ 0
        → (remaining_of (front ++ l)).removed ≡ cond (list_all is_dot_segment front) (remaining_of l).removed (remaining_of front).removed
    removed_by l e = ap (λ m. m.removed) (process_all-append front l nothing) ∙ (process_removed front (remaining_of l) e).1

    flags : vm ≡ vb
    flags = by_flag a refl (list_all is_dot_segment front) refl
      where
        by_flag : (v : Bool) → a ≡ v → (w : Bool) → list_all is_dot_segment front ≡ w
            → (v || (remaining_of (front ++ ss)).removed) ≡ (v || (remaining_of (front ++ last ∷ [])).removed)
        by_flag true d w e = refl
        by_flag false d false e =
            removed_by ss (none_back ss some shaped_none) ∙ ap (λ w. cond w (remaining_of ss).removed (remaining_of front).removed) e
            ∙ sym (removed_by (last ∷ []) (one_waits last h).0 ∙ ap (λ w. cond w (remaining_of (last ∷ [])).removed (remaining_of front).removed) e)
        by_flag false d true e =
            let off : vb ≡ false =
            ap (λ v. v || (remaining_of (front ++ last ∷ [])).removed) d ∙ removed_by (last ∷ []) (one_waits last h).0
            ∙ ap (λ w. cond w (remaining_of (last ∷ [])).removed (remaining_of front).removed) e ∙ (one_waits last h).1 in
            let single : length (map canonical (led vb (replay [] (front ++ last ∷ [])))) ≡ 1 =
            length-map (led vb (replay [] (front ++ last ∷ []))) canonical ∙ ap (λ v. length (led v (replay [] (front ++ last ∷ [])))) off
            ∙ ap length (base_is ∙ ap (λ l. l ++ final ∷ []) (dots_alone front e)) in
            absurd (omega (arith, single, more))

-- ---- the paths

no_root : (p : PathParts) → respelled p ≡ p → has_hidden_root p ≡ false
no_root p h = by_flag p.absolute refl
  where
    and_no : (v : Bool) → (v && false) ≡ false
    and_no true = refl
    and_no false = refl

    by_flag : (v : Bool) → p.absolute ≡ v → has_hidden_root p ≡ false
    by_flag true e = ap (λ v. not v && starts_with_empty_segment p.segments) e
    by_flag false e = ap (λ w. not p.absolute && w) (formed_shown p h e) ∙ and_no (not p.absolute)

normal_list : (p : PathParts) → IsListed p.segments → respelled p ≡ p
    → map canonical (led (p.absolute || (remaining_of p.segments).removed) (replay [] p.segments)) ≡ between_slashes (pnormal p false)
normal_list p is h =
    ap (λ l. map canonical (led (p.absolute || (remaining_of p.segments).removed) l)) (replay_left p.segments is.some)
    ∙ left-normal p.absolute p.segments is (no_root p h)

merged_paths : (p q : PathParts) → IsListed p.segments → respelled p ≡ p → IsListed q.segments → IsListed (merged p q).segments → respelled (merged p q) ≡ merged p q
    → is_last is_double_dot p.segments ≡ false → list_any is_double_dot (relative_normal q.segments) ≡ false → has_ambiguous (relative_normal q.segments) ≡ false
    → 1 < length (between_slashes (pnormal p false)) → AreWithin (between_slashes (pnormal (merged p q) false)) (between_slashes (pnormal p false))
merged_paths p q is h js ms k last none plain more =
    subst (λ l. AreWithin l (between_slashes (pnormal p false))) (normal_list (merged p q) ms k)
    (subst (λ l. AreWithin (map canonical (led (p.absolute || (remaining_of (all_but_last p.segments ++ q.segments)).removed) (replay [] (all_but_last p.segments ++ q.segments)))) l)
    (normal_list p is h)
    (by_list p.segments is.some last (subst (λ l. 1 < length l) (sym (normal_list p is h)) more)))
  where
    by_list : (l : List (List ℕ)) → 0 < length l → is_last is_double_dot l ≡ false
        → 1 < length (map canonical (led (p.absolute || (remaining_of l).removed) (replay [] l)))
        → AreWithin (map canonical (led (p.absolute || (remaining_of (all_but_last l ++ q.segments)).removed) (replay [] (all_but_last l ++ q.segments))))
        (map canonical (led (p.absolute || (remaining_of l).removed) (replay [] l)))
    by_list [] some e m = absurd (omega (arith, some))
    by_list (s ∷ l) some e m =
        let c = pushed s l in
        let final : is_double_dot c.last ≡ false = sym (last_push is_double_dot c.front c.last) ∙ sym (ap (is_last is_double_dot) c.whole) ∙ e in
        subst (λ f. AreWithin (map canonical (led (p.absolute || (remaining_of (f ++ q.segments)).removed) (replay [] (f ++ q.segments))))
        (map canonical (led (p.absolute || (remaining_of (s ∷ l)).removed) (replay [] (s ∷ l)))))
        (sym (ap all_but_last c.whole ∙ all_but_last_push c.front c.last))
        (subst (λ w. AreWithin (map canonical (led (p.absolute || (remaining_of (c.front ++ q.segments)).removed) (replay [] (c.front ++ q.segments))))
        (map canonical (led (p.absolute || (remaining_of w).removed) (replay [] w)))) (sym c.whole)
        (merged_below p.absolute c.front c.last q.segments final js.some none plain
        (subst (λ w. 1 < length (map canonical (led (p.absolute || (remaining_of w).removed) (replay [] w)))) c.whole m)))

-- ---- the target

same_given : {A : Type 0} (x y : A) → Some x ≡ Some y → x ≡ y
same_given x y e = cc

target_path : (a : Option AuthorityParts) (m : PathParts) → Fits (is_some a) m → pnormal (dot_prefixed a (undotted m)) false ≡ pnormal m false
target_path a m is =
    let listed = listed_undotted m is.listed in
    pnormal_shielded a (undotted m) false listed (respelled_twice (replayed m)) (fits_undotted a m is)
    ∙ pnormal_is (undotted m) false listed (respelled_twice (replayed m)) refl
    ∙ ap canonical_path (undotted_twice m is.listed)
    ∙ sym (pnormal_is m false is.listed is.formed refl)

-- a reference whose path is merged
pub target_below : (b r t : Parts) → Valid b → Valid r → is_merged r ≡ true → is_last is_double_dot b.path.segments ≡ false
    → 1 < length (between_slashes (pnormal b.path false)) → list_any is_double_dot (pnormal r.path true).segments ≡ false
    → has_ambiguous (pnormal r.path true).segments ≡ false → target b r ≡ Some t → IsWithin t b
target_below b r t v w h last more none plain given = by_room (nat_le (length (pieces (merge b r))) max_segments) refl (sym chosen_is ∙ given)
  where
    tests : (is_some r.scheme ≡ false) × (is_some r.authority ≡ false) × (is_empty (text r.path) ≡ false) × (is_rooted (text r.path) ≡ false)
    tests =
        let x = and_parts (not (is_some r.scheme)) (not (is_some r.authority) && (not (is_empty (text r.path)) && not (is_rooted (text r.path)))) h in
        let y = and_parts (not (is_some r.authority)) (not (is_empty (text r.path)) && not (is_rooted (text r.path))) x.1 in
        let z = and_parts (not (is_empty (text r.path))) (not (is_rooted (text r.path))) y.1 in (
          not-true (is_some r.scheme) x.0,
          not-true (is_some r.authority) y.0,
          not-true (is_empty (text r.path)) z.0,
          not-true (is_rooted (text r.path)) z.1,
        )

    chosen_is : target b r ≡ chosen false false false false b r
    chosen_is =
        ap (λ z. chosen z (is_some r.authority) (is_empty (text r.path)) (is_rooted (text r.path)) b r) tests.0
        ∙ ap (λ z. chosen false z (is_empty (text r.path)) (is_rooted (text r.path)) b r) tests.1
        ∙ ap (λ z. chosen false false z (is_rooted (text r.path)) b r) tests.2
        ∙ ap (λ z. chosen false false false z b r) tests.3

    fb : Fits (is_some b.authority) b.path
    fb = fits_of b v

    js : IsFollowing r.path
    js = following r.path (subst (λ u. Fits u r.path) tests.1 (fits_of r w)) tests.3

    relative_is_form : (pnormal r.path true).segments ≡ relative_normal r.path.segments
    relative_is_form = ap (λ p. p.segments) (pnormal_relative r.path true (ap not tests.3))

    by_room : (z : Bool) → nat_le (length (pieces (merge b r))) max_segments ≡ z
        → cond z (Some (target_of b.scheme b.authority (dots_removed (merge b r)) r.query r.fragment)) None ≡ Some t → IsWithin t b
    by_room false z g = absurd (cc)
    by_room true z g =
        let short : length (merged b.path r.path).segments ≤ max_segments =
        le_from _ _ (ap (λ p. nat_le (length p.segments) max_segments) (sym (merged_spelled (is_some b.authority) b.path r.path fb js)) ∙ z) in
        let fm = fits_merged (is_some b.authority) b.path r.path fb js short in
        let path_is : pnormal (dot_prefixed b.authority (dots_removed (merge b r))) false ≡ pnormal (merged b.path r.path) false =
        ap (λ p. pnormal (dot_prefixed b.authority p) false) (dots_removed-merged (is_some b.authority) b.path r.path fb js short)
        ∙ target_path b.authority (merged b.path r.path) fm in
        subst (λ u. IsWithin u b) (same_given _ _ g) (record {
          place = record { schemes = refl; authorities = refl };
          path = subst (λ p. AreWithin (between_slashes p) (between_slashes (pnormal b.path false))) (sym path_is)
              (merged_paths b.path r.path fb.listed fb.formed js.listed fm.listed fm.formed last
              (ap (list_any is_double_dot) (sym relative_is_form) ∙ none) (ap has_ambiguous (sym relative_is_form) ∙ plain) more);
          clear = subst (λ p. removes_unclear (dot_prefixed b.authority p) ≡ false) (sym (dots_removed-merged (is_some b.authority) b.path r.path fb js short))
              (undotted_clear b.authority (undotted (merged b.path r.path)) (listed_undotted (merged b.path r.path) fm.listed).each
              (no_dots_undotted (merged b.path r.path) fm.listed));
        })

-- a reference with nothing but a query or a fragment
pub own_below : (b r t : Parts) (front : List (List ℕ)) (last : List ℕ) → Valid b → r.scheme ≡ None → r.authority ≡ None → is_empty (text r.path) ≡ true
    → between_slashes (pnormal b.path false) ≡ front ++ last ∷ [] → is_ambiguous last ≡ false → removes_unclear b.path ≡ false → target b r ≡ Some t
    → IsWithin t b
own_below b r t front last v e f g cut plain clear given =
    let chosen_is : target b r ≡ chosen false false true (is_rooted (text r.path)) b r =
    ap (λ z. chosen (is_some z) (is_some r.authority) (is_empty (text r.path)) (is_rooted (text r.path)) b r) e
    ∙ ap (λ z. chosen false (is_some z) (is_empty (text r.path)) (is_rooted (text r.path)) b r) f
    ∙ ap (λ z. chosen false false z (is_rooted (text r.path)) b r) g in
    subst (λ u. IsWithin u b) (same_given _ _ (sym chosen_is ∙ given)) (record {
      place = record { schemes = refl; authorities = refl };
      path = subst (λ p. AreWithin (between_slashes (pnormal p false)) (between_slashes (pnormal b.path false))) (sym (shielded_fits b.authority b.path (fits_of b v)))
          (are_within_itself (between_slashes (pnormal b.path false)) front last cut plain);
      clear = subst (λ p. removes_unclear p ≡ false) (sym (shielded_fits b.authority b.path (fits_of b v))) clear;
    })
