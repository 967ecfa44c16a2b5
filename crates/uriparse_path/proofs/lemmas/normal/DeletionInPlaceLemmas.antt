-- One pass over a list deletes in place: what is left so far is its front.
use Rattle.std.proofs.Common.{◌≡◌, ℕ, zero, suc, ◌+◌, ◌-◌, ◌<◌, ◌≤◌, Bool, true, false, not, List, [], ◌∷◌, ◌++◌, length, take, drop, get_or, refl, sym, ap}
use Rattle.std.proofs.Common.{subst, ◌∙◌, arith, ◌&&◌}
use Rattle.std.specs.Prelude.{reverse}
use Rattle.std.specs.List.{swap}
use Rattle.std.proofs.lemmas.Bool.{false≢true, not-true}
use Rattle.std.proofs.lemmas.List.{reverse-append}
use Rattle.uriparse_path.specs.Dots.{is_single_dot, is_double_dot, is_dot_segment, all_but_last}
use Rattle.uriparse_path.specs.Relative.{is_last, put, put_all}
use Rattle.uriparse_path.proofs.lemmas.dots.DotSegmentLemmas.{not_both}
use Rattle.uriparse_path.proofs.lemmas.normal.RelativeLengthLemmas.{pushed, last_push}
use Rattle.uriparse_path.proofs.lemmas.dots.ReplayInPlaceLemmas.{push_cut, cut-take, rest_is, front_swapped, end_swapped}

-- ---- a stack, and the list with its last segment on top

abbrev is_name : List ℕ → Bool
is_name s = not (is_dot_segment s)

reverse_push : (front : List (List ℕ)) (t : List ℕ) → reverse (front ++ t ∷ []) ≡ t ∷ reverse front
reverse_push front t = reverse-append front (t ∷ [])

put_pair : (out : List (List ℕ)) (s : List ℕ) → is_double_dot s ≡ true → is_last is_name out ≡ true → put (reverse out) s ≡ reverse (all_but_last out)
put_pair [] s h k = absurd (false≢true k)
put_pair (r ∷ out) s h k =
    let is = pushed r out in
    subst (λ u. put (reverse u) s ≡ reverse (all_but_last u)) (sym is.whole)
    (on_last is.front is.last (not-true (is_dot_segment is.last) (sym (ap (is_last is_name) is.whole ∙ last_push is_name is.front is.last) ∙ k)))
  where
    on_last : (front : List (List ℕ)) (t : List ℕ) → is_dot_segment t ≡ false → put (reverse (front ++ t ∷ [])) s ≡ reverse (all_but_last (front ++ t ∷ []))
    on_last front t e = ap (λ u. put u s) (reverse_push front t) ∙ rw (not_both s h, h, e) (ap reverse (sym (push_cut front t)))

put_other : (out : List (List ℕ)) (s : List ℕ) → is_single_dot s ≡ false → (is_double_dot s && is_last is_name out) ≡ false
    → put (reverse out) s ≡ reverse (out ++ s ∷ [])
put_other [] s h k = rw h refl
put_other (r ∷ out) s h k =
    let is = pushed r out in
    subst (λ u. put (reverse u) s ≡ reverse (u ++ s ∷ [])) (sym is.whole)
    (on_last is.front is.last (sym (ap (λ v. is_double_dot s && v) (ap (is_last is_name) is.whole ∙ last_push is_name is.front is.last)) ∙ k))
  where
    on_last : (front : List (List ℕ)) (t : List ℕ) → (is_double_dot s && not (is_dot_segment t)) ≡ false
        → put (reverse (front ++ t ∷ [])) s ≡ reverse ((front ++ t ∷ []) ++ s ∷ [])
    on_last front t e = ap (λ u. put u s) (reverse_push front t) ∙ rw (h, e) (sym (reverse_push (front ++ t ∷ []) s ∙ ap (λ u. s ∷ u) (reverse_push front t)))

-- ---- the pass at a place

module _ (xs : List (List ℕ)) (kept at : ℕ) (s : List ℕ) (order : kept ≤ at) (within : at < length xs) (read : s ≡ get_or xs at s) where
  here : put_all (reverse (take kept xs)) (drop at xs) ≡ put_all (put (reverse (take kept xs)) s) (drop (at + 1) xs)
  here = ap (put_all (reverse (take kept xs))) (rest_is xs kept at s order within read)

  pub pair_put : is_double_dot s ≡ true → is_last is_name (take kept xs) ≡ true
      → put_all (reverse (take (kept - 1) xs)) (drop (at + 1) xs) ≡ put_all (reverse (take kept xs)) (drop at xs)
  pair_put h k =
      ap (λ u. put_all (reverse u) (drop (at + 1) xs)) (cut-take xs kept (omega arith))
      ∙ sym (here ∙ ap (λ u. put_all u (drop (at + 1) xs)) (put_pair (take kept xs) s h k))

  pub other_put : is_single_dot s ≡ false → (is_double_dot s && is_last is_name (take kept xs)) ≡ false
      → put_all (reverse (take (kept + 1) (swap xs kept at))) (drop (at + 1) (swap xs kept at)) ≡ put_all (reverse (take kept xs)) (drop at xs)
  other_put h k =
      ap (λ u. put_all (reverse u) (drop (at + 1) (swap xs kept at))) (front_swapped xs kept at s order within read)
      ∙ ap (λ u. put_all (reverse (take kept xs ++ s ∷ [])) u) (end_swapped xs kept at s order within read)
      ∙ sym (here ∙ ap (λ u. put_all u (drop (at + 1) xs)) (put_other (take kept xs) s h k))

-- a name is last only if something is
pub name_some : (xs : List (List ℕ)) (kept : ℕ) → is_last is_name (take kept xs) ≡ true → 0 < kept
name_some [] zero h = absurd (false≢true h)
name_some (x ∷ xs) zero h = absurd (false≢true h)
name_some xs (suc k) h = omega arith
