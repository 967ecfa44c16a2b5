-- Segments that are not canonical are replaced by their canonical spellings, which are kept with their places.
use Rattle.std.proofs.Common.{◌≡◌, ℕ, ◌+◌, ◌<◌, ◌≤◌, Bool, true, false, cond, List, [], ◌∷◌, ◌++◌, length, length-append, map, drop, get_or, set, refl, sym, ap, subst}
use Rattle.std.proofs.Common.{◌∙◌, arith, append_assoc, append-nil}
use Rattle.std.proofs.Math.Seq.{set-append_seam}
use Rattle.std.proofs.lemmas.List.{drop_all, drop_more}
use Rattle.std.specs.List.{list_all}
use Rattle.std.proofs.lemmas.Bool.{false≢true}
use Rattle.std.proofs.lemmas.List.Folds.{list_all_at}
use Rattle.std.proofs.lemmas.Slice.Eq.{bytes_eq-Decides}
use Rattle.uriparse_text.specs.Canonical.{canonical}
use Rattle.uriparse_path.specs.Normal.{is_canonical}
use Rattle.uriparse_path.specs.Copies.{placed}

not_canonical : (s : List ℕ) → (canonical s ≡ s → ⊥) → is_canonical s ≡ false
not_canonical s n = by_test (is_canonical s) refl
  where
    by_test : (v : Bool) → is_canonical s ≡ v → v ≡ false
    by_test true e = absurd (n ((bytes_eq-Decides (canonical s) s).0 e))
    by_test false e = refl

-- no canonical segment has to be copied
pub no_non_canonical : (xs : List (List ℕ)) (at : ℕ) (s : List ℕ) → at < length xs → s ≡ get_or xs at s → (canonical s ≡ s → ⊥) → list_all is_canonical xs ≡ true → ⊥
no_non_canonical xs at s h read n e =
    false≢true (sym (list_all_at is_canonical xs at s h (ap is_canonical (sym read) ∙ not_canonical s n)) ∙ e)

-- ---- copying, from the first to the last

placed_kept : (at : ℕ) (s : List ℕ) (ss : List (List ℕ)) → is_canonical s ≡ true → placed at (s ∷ ss) ≡ placed (at + 1) ss
placed_kept at s ss e = ap (λ v. cond v (placed (at + 1) ss) ((at, canonical s) ∷ placed (at + 1) ss)) e

placed_more : (at : ℕ) (s : List ℕ) (ss : List (List ℕ)) → is_canonical s ≡ false → placed at (s ∷ ss) ≡ (at, canonical s) ∷ placed (at + 1) ss
placed_more at s ss e = ap (λ v. cond v (placed (at + 1) ss) ((at, canonical s) ∷ placed (at + 1) ss)) e

module _ (xs : List (List ℕ)) (done whole : List (ℕ × List ℕ)) (at : ℕ) (s : List ℕ) (h : at < length xs) (read : s ≡ get_or xs at s)
    (f : done ++ placed at (drop at xs) ≡ whole) where
  next : drop at xs ≡ s ∷ drop (at + 1) xs
  next = drop_more xs at s h ∙ ap (λ x. x ∷ drop (at + 1) xs) (sym read)

  pub copied_kept : canonical s ≡ s → done ++ placed (at + 1) (drop (at + 1) xs) ≡ whole
  copied_kept e =
      ap (λ u. done ++ u) (sym (ap (placed at) next ∙ placed_kept at s (drop (at + 1) xs) ((bytes_eq-Decides (canonical s) s).1 e))) ∙ f

  pub copied_more : (canonical s ≡ s → ⊥) → (done ++ (at, canonical s) ∷ []) ++ placed (at + 1) (drop (at + 1) xs) ≡ whole
  copied_more n =
      append_assoc done ((at, canonical s) ∷ []) (placed (at + 1) (drop (at + 1) xs))
      ∙ ap (λ u. done ++ u) (sym (ap (placed at) next ∙ placed_more at s (drop (at + 1) xs) (not_canonical s n))) ∙ f

-- no segment is left to be copied
pub none_left : (xs : List (List ℕ)) (done whole : List (ℕ × List ℕ)) (at : ℕ) → length xs ≤ at → done ++ placed at (drop at xs) ≡ whole → done ≡ whole
none_left xs done whole at h f = sym (append-nil done) ∙ ap (λ l. done ++ placed at l) (sym (drop_all at xs h)) ∙ f

-- ---- putting the copies in place

-- the list with each copy in its place
abbrev pub with_copies : List (ℕ × List ℕ) → List (List ℕ) → List (List ℕ)
with_copies [] xs = xs
with_copies (c ∷ cs) xs = with_copies cs (set xs c.0 c.1)

-- each copy has a place in the list
abbrev pub AreWithin : List (ℕ × List ℕ) → ℕ → Type 0
AreWithin [] n = Unit {0}
AreWithin (c ∷ cs) n = (c.0 < n) × AreWithin cs n

seam : (front ss : List (List ℕ)) (s : List ℕ) → (front ++ s ∷ []) ++ ss ≡ front ++ s ∷ ss
seam front ss s = append_assoc front (s ∷ []) ss

long : (front : List (List ℕ)) (s : List ℕ) → length (front ++ s ∷ []) ≡ length front + 1
long front s = length-append front (s ∷ [])

-- what is known of the segments after one, with those before it
abbrev Rest : List (List ℕ) → List (List ℕ) → ℕ → Type 0
Rest front ss at = with_copies (placed at ss) (front ++ ss) ≡ front ++ map canonical ss

put_one : (front ss : List (List ℕ)) (s : List ℕ) (at : ℕ) → length front ≡ at → Rest (front ++ canonical s ∷ []) ss (at + 1) → Rest front (s ∷ ss) at
put_one front ss s at e rest = by_test (is_canonical s) refl
  where
    by_test : (v : Bool) → is_canonical s ≡ v → Rest front (s ∷ ss) at
    by_test true h =
        let same : canonical s ≡ s = (bytes_eq-Decides (canonical s) s).0 h in
        ap (λ c. with_copies c (front ++ s ∷ ss)) (placed_kept at s ss h)
        ∙ ap (with_copies (placed (at + 1) ss)) (ap (λ x. front ++ x ∷ ss) (sym same) ∙ sym (seam front ss (canonical s)))
        ∙ rest
        ∙ seam front (map canonical ss) (canonical s)
    by_test false h =
        ap (λ c. with_copies c (front ++ s ∷ ss)) (placed_more at s ss h)
        ∙ ap (with_copies (placed (at + 1) ss)) (ap (λ n. set (front ++ s ∷ ss) n (canonical s)) (sym e) ∙ set-append_seam front s ss (canonical s)
        ∙ sym (seam front ss (canonical s)))
        ∙ rest
        ∙ seam front (map canonical ss) (canonical s)

put_from : (front ss : List (List ℕ)) (at : ℕ) → length front ≡ at → Rest front ss at
put_from front [] at e = refl
put_from front (s ∷ ss) at e =
    put_one front ss s at e (put_from (front ++ canonical s ∷ []) ss (at + 1) (long front (canonical s) ∙ ap (λ n. n + 1) e))

pub all_put : (ss : List (List ℕ)) → with_copies (placed 0 ss) ss ≡ map canonical ss
all_put ss = put_from [] ss 0 refl

within_one : (s : List ℕ) (ss : List (List ℕ)) (at n : ℕ) → at < n → AreWithin (placed (at + 1) ss) n → AreWithin (placed at (s ∷ ss)) n
within_one s ss at n h rest = by_test (is_canonical s) refl
  where
    by_test : (v : Bool) → is_canonical s ≡ v → AreWithin (placed at (s ∷ ss)) n
    by_test true e = subst (λ c. AreWithin c n) (sym (placed_kept at s ss e)) rest
    by_test false e = subst (λ c. AreWithin c n) (sym (placed_more at s ss e)) (h, rest)

within_from : (ss : List (List ℕ)) (at n : ℕ) → at + length ss ≤ n → AreWithin (placed at ss) n
within_from [] at n h = tt
within_from (s ∷ ss) at n h = within_one s ss at n (omega (arith, h)) (within_from ss (at + 1) n (omega (arith, h)))

pub all_within : (ss : List (List ℕ)) → AreWithin (placed 0 ss) (length ss)
all_within ss = within_from ss 0 (length ss) (omega arith)

pub nothing : {X : Type 0} (l : List X) → length l ≡ 0 → l ≡ []
nothing [] e = refl
nothing (x ∷ l) e = absurd (omega (arith, e))
