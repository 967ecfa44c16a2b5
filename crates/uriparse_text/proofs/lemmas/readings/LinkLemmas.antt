-- References in running text.
use Rattle.std.proofs.Common.{◌≡◌, ℕ, ◌+◌, ◌-◌, ◌<◌, Bool, true, false, not, List, [], ◌∷◌, length, take, drop, Option, Some, None, refl, sym, ap, subst, ◌∙◌, take_all, arith, zero, suc}
use Rattle.std.specs.Prelude.{◌==◌, cond, reverse, get_or}
use Rattle.std.specs.Char.{is_ascii_whitespace}
use Rattle.std.specs.List.{prefix_len, suffix_len}
use Rattle.std.proofs.lemmas.Bool.{and_parts, not-true}
use Rattle.std.proofs.lemmas.List.{get_or-reverse, length-reverse}
use Rattle.std.proofs.lemmas.List.Sums.{prefix_len_stops, suffix_len-le-length, suffix_len-take_no, suffix_len_is, AllPass-from_list_all}
use Rattle.uriparse_text.specs.Cuts.{lacks, none_pass}
use Rattle.uriparse_text.specs.Link.{less_than, trimmed_front, trimmed_back, trimmed, in_brackets, without_label, unwrapped, link}

-- ---- nothing is left to trim

module _ (p : ℕ → Bool) where
  prefix-drop : (t : List ℕ) → prefix_len p (drop (prefix_len p t) t) ≡ 0
  prefix-drop [] = refl
  prefix-drop (b ∷ t) = by_test (p b) refl (prefix-drop t)
    where
      by_test : (v : Bool) → p b ≡ v → prefix_len p (drop (prefix_len p t) t) ≡ 0 → prefix_len p (drop (cond (p b) (1 + prefix_len p t) 0) (b ∷ t)) ≡ 0
      by_test true e h =
          let size : suc (prefix_len p t) ≡ 1 + prefix_len p t = omega arith in
          subst (λ n. prefix_len p (drop n (b ∷ t)) ≡ 0) (size ∙ ap (λ v. cond v (1 + prefix_len p t) 0) (sym e)) h
      by_test false e h = rw e (rw e refl)

  prefix-take : (n : ℕ) (t : List ℕ) → prefix_len p t ≡ 0 → prefix_len p (take n t) ≡ 0
  prefix-take zero t h = refl
  prefix-take (suc n) [] h = refl
  prefix-take (suc n) (b ∷ t) h = by_test (p b) refl h
    where
      by_test : (v : Bool) → p b ≡ v → cond (p b) (1 + prefix_len p t) 0 ≡ 0 → cond (p b) (1 + prefix_len p (take n t)) 0 ≡ 0
      by_test true e h = let same : 1 + prefix_len p t ≡ 0 = subst (λ v. cond v (1 + prefix_len p t) 0 ≡ 0) e h in absurd (omega (arith, same))
      by_test false e h = rw e refl

  -- the last byte that is left doesn't pass
  last_stops : (t : List ℕ) → 0 < length t - suffix_len p t → p (get_or t (length t - suffix_len p t - 1) 0) ≡ false
  last_stops t h =
      let size = length-reverse t in
      let bound : suffix_len p t < length (reverse t) = omega (arith, h, size) in
      let at = get_or-reverse t (suffix_len p t) 0 (omega (arith, h)) in
      ap (λ n. p (get_or t n 0)) (omega (arith, h)) ∙ ap p (sym at) ∙ prefix_len_stops p (reverse t) 0 bound

  suffix-take : (t : List ℕ) → suffix_len p (take (length t - suffix_len p t) t) ≡ 0
  suffix-take t = by_size (length t - suffix_len p t) refl
    where
      by_size : (n : ℕ) → length t - suffix_len p t ≡ n → suffix_len p (take n t) ≡ 0
      by_size zero e = refl
      by_size (suc n) e =
          let bound = suffix_len-le-length p t in
          suffix_len-take_no p t (suc n) 0 (omega arith) (omega (arith, e, bound))
          (subst (λ k. p (get_or t (k - 1) 0) ≡ false) e (last_stops t (omega (arith, e))))

pub trimmed-trimmed : (t : List ℕ) → trimmed (trimmed t) ≡ trimmed t
trimmed-trimmed t =
    let front : prefix_len is_ascii_whitespace (trimmed t) ≡ 0 =
    prefix-take is_ascii_whitespace (length (trimmed_front t) - suffix_len is_ascii_whitespace (trimmed_front t)) (trimmed_front t) (prefix-drop is_ascii_whitespace t) in
    let back : suffix_len is_ascii_whitespace (trimmed t) ≡ 0 = suffix-take is_ascii_whitespace (trimmed_front t) in
    ap (λ n. trimmed_back (drop n (trimmed t))) front ∙ ap (λ n. take (length (trimmed t) - n) (trimmed t)) back
    ∙ take_all (length (trimmed t) - 0) (trimmed t) (omega arith)

-- ---- what a link is

pub trimmed-link : (t : List ℕ) → trimmed (link t) ≡ link t
trimmed-link t = by_brackets (in_brackets (trimmed t))
  where
    by_brackets : (o : Option (List ℕ)) → trimmed (unwrapped o (trimmed t)) ≡ unwrapped o (trimmed t)
    by_brackets None = trimmed-trimmed t
    by_brackets (Some inside) = trimmed-trimmed (without_label (trimmed inside))

pub link-link : (t : List ℕ) → in_brackets (link t) ≡ None → link (link t) ≡ link t
link-link t h = ap (λ u. unwrapped (in_brackets u) u) (trimmed-link t) ∙ ap (λ o. unwrapped o (link t)) h

-- ---- a text without white space and `<`

prefix_len-none : (p : ℕ → Bool) (t : List ℕ) → none_pass p t ≡ true → prefix_len p t ≡ 0
prefix_len-none p [] h = refl
prefix_len-none p (b ∷ t) h = let both = and_parts _ _ h in rw (not-true (p b) both.0) refl

suffix_len-none : (p : ℕ → Bool) (t : List ℕ) → none_pass p t ≡ true → suffix_len p t ≡ 0
suffix_len-none p t h =
    let size = suffix_len_is p t (length t) 0 (omega arith) (λ k low high. absurd (omega (arith, low, high)))
    (λ some. not-true (p (get_or t (length t - 1) 0)) (AllPass-from_list_all (λ b. not (p b)) t h (length t - 1) 0 (omega (arith, some)))) in
    omega (arith, size)

none_bracketed : (t : List ℕ) → lacks less_than t ≡ true → in_brackets t ≡ None
none_bracketed [] h = refl
none_bracketed (b ∷ t) h = let both = and_parts _ _ h in rw (not-true (b == less_than) both.0) refl

pub link-plain : (t : List ℕ) → none_pass is_ascii_whitespace t ≡ true → lacks less_than t ≡ true → link t ≡ t
link-plain t h k =
    let front : trimmed_front t ≡ t = ap (λ n. drop n t) (prefix_len-none is_ascii_whitespace t h) in
    let back : trimmed_back t ≡ t = ap (λ n. take (length t - n) t) (suffix_len-none is_ascii_whitespace t h) ∙ take_all (length t - 0) t (omega arith) in
    let same : trimmed t ≡ t = ap trimmed_back front ∙ back in
    ap (λ u. unwrapped (in_brackets u) u) same ∙ ap (λ o. unwrapped o t) (none_bracketed t k)
