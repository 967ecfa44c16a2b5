-- One pass over a list replays its segments in place: the output so far is its front, what is left its end.
use Rattle.std.proofs.Common.{◌≡◌, ◌≢◌, ◌↔◌, subst, ℕ, zero, suc, ◌+◌, ◌-◌, ◌<◌, ◌≤◌, Bool, true, false, cond, List, [], ◌∷◌, ◌++◌, length, take}
use Rattle.std.proofs.Common.{drop, get_or, set, length-set, ⊎_elim, refl, sym, ap, ◌∙◌, arith, ◌||◌, add-one, length-drop}
use Rattle.std.specs.Prelude.{◌==◌}
use Rattle.std.specs.List.{swap}
use Rattle.std.proofs.lemmas.Bool.Decides.{eqb_tells}
use Rattle.std.proofs.lemmas.List.{take_more, drop_more, take_more_set, take-set, take-set-le, drop-set-lt}
use Rattle.std.proofs.lemmas.List.Edits.{swap_is}
use Rattle.std.proofs.Math.Nat.{eq-or-lt_of_le}
use Rattle.uriparse_path.specs.Path.{PathParts, IsListed, text, spelled}
use Rattle.uriparse_path.specs.Dots.{is_single_dot, is_double_dot, has_dot_segment, all_but_last, replay, is_one, rooted_after, undot, without_dots}
use Rattle.uriparse_path.proofs.lemmas.dots.DotSegmentLemmas.{not_both}
use Rattle.uriparse_path.specs.Normal.{stays_relative, pnormal, are_normal}
use Rattle.uriparse_path.proofs.lemmas.normal.NormalFormLemmas.{undot_path, normal_iff}

-- ---- the front

-- two reads of one place
pub same_read : (xs : List (List ℕ)) (at : ℕ) (x y : List ℕ) → at < length xs → x ≡ get_or xs at x → y ≡ get_or xs at y → x ≡ y
same_read xs at x y h e f = let a = drop_more xs at x h in let b = drop_more xs at y h in cc

pub push_cut : (out : List (List ℕ)) (s : List ℕ) → all_but_last (out ++ s ∷ []) ≡ out
push_cut [] s = refl
push_cut (r ∷ []) s = refl
push_cut (r ∷ q ∷ out) s = ap (λ u. r ∷ u) (push_cut (q ∷ out) s)

pub cut-take : (xs : List (List ℕ)) (kept : ℕ) → kept ≤ length xs → take (kept - 1) xs ≡ all_but_last (take kept xs)
cut-take xs zero h = refl
cut-take xs (suc k) h =
    let less : suc k - 1 ≡ k = omega arith in
    ap (λ n. take n xs) less
    ∙ sym (ap (λ n. all_but_last (take n xs)) (sym (add-one k)) ∙ ap all_but_last (take_more xs k [] (omega arith)) ∙ push_cut (take k xs) (get_or xs k []))

one-take : (xs : List (List ℕ)) (kept : ℕ) → kept ≤ length xs → kept ≡ 1 → is_one (take kept xs) ≡ true
one-take [] kept h e = absurd (omega arith)
one-take (x ∷ xs) kept h e = ap (λ n. is_one (take n (x ∷ xs))) e

not_one-take : (xs : List (List ℕ)) (kept : ℕ) → kept ≤ length xs → kept ≢ 1 → is_one (take kept xs) ≡ false
not_one-take xs zero h e = refl
not_one-take [] (suc k) h e = absurd (omega arith)
not_one-take (x ∷ xs) (suc zero) h e = absurd (e refl)
not_one-take (x ∷ []) (suc (suc k)) h e = absurd (omega arith)
not_one-take (x ∷ y ∷ xs) (suc (suc k)) h e = refl

pub is_one-take : (xs : List (List ℕ)) (kept : ℕ) → kept ≤ length xs → is_one (take kept xs) ≡ (kept == 1)
is_one-take xs kept h = ⊎_elim (λ (e, k). one-take xs kept h k ∙ sym e) (λ (e, k). not_one-take xs kept h k ∙ sym e) (eqb_tells kept 1)

-- ---- the replay of one segment

replay_double : (out : List (List ℕ)) (s : List ℕ) (rest : List (List ℕ)) → is_double_dot s ≡ true → 0 < length rest
    → replay out (s ∷ rest) ≡ replay (all_but_last out) rest
replay_double out s [] h n = absurd (omega arith)
replay_double out s (r ∷ rest) h n = rw (not_both s h, h) refl

replay_last_double : (out : List (List ℕ)) (s : List ℕ) → is_double_dot s ≡ true → replay out (s ∷ []) ≡ all_but_last out ++ [] ∷ []
replay_last_double out s h = rw (not_both s h, h) refl

replay_other : (out : List (List ℕ)) (s : List ℕ) (rest : List (List ℕ)) → is_single_dot s ≡ false → is_double_dot s ≡ false
    → replay out (s ∷ rest) ≡ replay (out ++ s ∷ []) rest
replay_other out s [] h k = rw (h, k) refl
replay_other out s (r ∷ rest) h k = rw (h, k) refl

rooted_double : (rooted : Bool) (out : List (List ℕ)) (s : List ℕ) (rest : List (List ℕ)) → is_double_dot s ≡ true
    → rooted_after rooted out (s ∷ rest) ≡ rooted_after (rooted || is_one out) (all_but_last out) rest
rooted_double rooted out s rest h = rw (not_both s h, h) refl

rooted_other : (rooted : Bool) (out : List (List ℕ)) (s : List ℕ) (rest : List (List ℕ)) → is_single_dot s ≡ false → is_double_dot s ≡ false
    → rooted_after rooted out (s ∷ rest) ≡ rooted_after rooted (out ++ s ∷ []) rest
rooted_other rooted out s rest h k = rw (h, k) refl

-- ---- the pass at a place

module _ (xs : List (List ℕ)) (kept at : ℕ) (s : List ℕ) (order : kept ≤ at) (within : at < length xs) (read : s ≡ get_or xs at s) where
  pub rest_is : drop at xs ≡ s ∷ drop (at + 1) xs
  rest_is = drop_more xs at s within ∙ ap (λ x. x ∷ drop (at + 1) xs) (sym read)

  pub double_skipped : is_double_dot s ≡ true → at + 1 < length xs → replay (take (kept - 1) xs) (drop (at + 1) xs) ≡ replay (take kept xs) (drop at xs)
  double_skipped h k =
      ap (λ u. replay u (drop (at + 1) xs)) (cut-take xs kept (omega arith))
      ∙ sym (ap (replay (take kept xs)) rest_is ∙ replay_double (take kept xs) s (drop (at + 1) xs) h (omega (arith, length-drop (at + 1) xs)))

  pub double_rooted : (rooted now : Bool) → is_double_dot s ≡ true → now ≡ (rooted || is_one (take kept xs))
      → rooted_after now (take (kept - 1) xs) (drop (at + 1) xs) ≡ rooted_after rooted (take kept xs) (drop at xs)
  double_rooted rooted now h e =
      ap (λ v. rooted_after v (take (kept - 1) xs) (drop (at + 1) xs)) e
      ∙ ap (λ u. rooted_after (rooted || is_one (take kept xs)) u (drop (at + 1) xs)) (cut-take xs kept (omega arith))
      ∙ sym (ap (rooted_after rooted (take kept xs)) rest_is ∙ rooted_double rooted (take kept xs) s (drop (at + 1) xs) h)

  pub double_last : is_double_dot s ≡ true → at + 1 ≡ length xs
      → replay (take (kept - 1 + 1) (set xs (kept - 1) [])) (drop (at + 1) (set xs (kept - 1) [])) ≡ replay (take kept xs) (drop at xs)
  double_last h e =
      ap (λ u. replay (take (kept - 1 + 1) (set xs (kept - 1) [])) u) (drop-set-lt (at + 1) xs (kept - 1) [] (omega arith) ∙ nothing)
      ∙ take_more_set xs (kept - 1) [] (omega arith)
      ∙ ap (λ u. u ++ [] ∷ []) (cut-take xs kept (omega arith))
      ∙ sym (ap (replay (take kept xs)) (rest_is ∙ ap (λ u. s ∷ u) nothing) ∙ replay_last_double (take kept xs) s h)
    where
      none : (l : List (List ℕ)) → length l ≡ 0 → l ≡ []
      none [] h = refl
      none (x ∷ l) h = absurd (omega arith)

      nothing : drop (at + 1) xs ≡ []
      nothing = none (drop (at + 1) xs) (omega (arith, length-drop (at + 1) xs))

  -- a segment that is swapped to the front's end
  swapped : swap xs kept at ≡ set (set xs kept s) at (get_or xs kept s)
  swapped = sym (swap_is xs kept at s (omega arith) within) ∙ ap (λ x. set (set xs kept x) at (get_or xs kept s)) (sym read)

  front : take (kept + 1) (set (set xs kept s) at (get_or xs kept s)) ≡ take kept xs ++ s ∷ []
  front = ⊎_elim own below (eq-or-lt_of_le order)
    where
      own : kept ≡ at → take (kept + 1) (set (set xs kept s) at (get_or xs kept s)) ≡ take kept xs ++ s ∷ []
      own e =
          ap (λ x. take (kept + 1) (set (set xs kept s) at x)) (ap (λ n. get_or xs n s) e ∙ sym read)
          ∙ ap (λ n. take (kept + 1) (set (set xs kept s) n s)) (sym e)
          ∙ take_more_set (set xs kept s) kept s (omega (arith, length-set xs kept s))
          ∙ ap (λ u. u ++ s ∷ []) (take-set xs kept s)

      below : kept < at → take (kept + 1) (set (set xs kept s) at (get_or xs kept s)) ≡ take kept xs ++ s ∷ []
      below h = take-set-le (kept + 1) (set xs kept s) at (get_or xs kept s) (omega arith) ∙ take_more_set xs kept s (omega arith)

  end : (x : List ℕ) → drop (at + 1) (set (set xs kept s) at x) ≡ drop (at + 1) xs
  end x = drop-set-lt (at + 1) (set xs kept s) at x (omega arith) ∙ drop-set-lt (at + 1) xs kept s (omega arith)

  pub front_swapped : take (kept + 1) (swap xs kept at) ≡ take kept xs ++ s ∷ []
  front_swapped = ap (take (kept + 1)) swapped ∙ front

  pub end_swapped : drop (at + 1) (swap xs kept at) ≡ drop (at + 1) xs
  end_swapped = ap (drop (at + 1)) swapped ∙ end (get_or xs kept s)

  pub other_replayed : is_single_dot s ≡ false → is_double_dot s ≡ false
      → replay (take (kept + 1) (swap xs kept at)) (drop (at + 1) (swap xs kept at)) ≡ replay (take kept xs) (drop at xs)
  other_replayed h k = rw (front_swapped, end_swapped, rest_is) (sym (replay_other (take kept xs) s (drop (at + 1) xs) h k))

  pub other_rooted : (rooted : Bool) → is_single_dot s ≡ false → is_double_dot s ≡ false
      → rooted_after rooted (take (kept + 1) (swap xs kept at)) (drop (at + 1) (swap xs kept at)) ≡ rooted_after rooted (take kept xs) (drop at xs)
  other_rooted rooted h k = rw (front_swapped, end_swapped, rest_is) (sym (rooted_other rooted (take kept xs) s (drop (at + 1) xs) h k))

-- ---- the whole pass

pub passed : (p q : PathParts) (a : Bool) (l : List (List ℕ)) → IsListed p.segments → has_dot_segment p.segments ≡ true
    → a ≡ rooted_after p.absolute [] p.segments → l ≡ replay [] p.segments → q ≡ spelled (text (record { absolute = a; segments = l })) → q ≡ without_dots p
passed p q a l is dots e f g =
    g
    ∙ ap (λ v. spelled (text (record { absolute = v; segments = l }))) e
    ∙ ap (λ m. spelled (text (record { absolute = rooted_after p.absolute [] p.segments; segments = m }))) f
    ∙ sym (ap (λ v. cond v (spelled (undot (text p))) p) dots ∙ ap spelled (undot_path p is))

-- ---- the test

pub tested : (p : PathParts) (r v b : Bool) → IsListed p.segments → v ≡ stays_relative p r → b ≡ are_normal v p.segments → (b ≡ true) ↔ (text (pnormal p r) ≡ text p)
tested p r v b is e f = subst (λ u. (u ≡ true) ↔ (text (pnormal p r) ≡ text p)) (sym (f ∙ ap (λ w. are_normal w p.segments) e)) (normal_iff p r is)
