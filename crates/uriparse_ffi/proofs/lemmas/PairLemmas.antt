-- What is left of a query after a pair.
use Rattle.std.proofs.Common.{◌≡◌, ℕ, ◌+◌, ◌-◌, ◌≤◌, ◌<◌, Bool, true, false, cond, List, [], ◌∷◌, ◌++◌, flat_map, length, drop, Option, Some, None, refl, sym, ap, subst, ◌∙◌, arith, append-nil, take, take_all}
use Rattle.std.specs.Prelude.{IfSome, IsSome, nat_le}
use Rattle.std.specs.List.{find}
use Rattle.std.proofs.Math.Seq.{drop-append-add, drop-append_seam}
use Rattle.std.proofs.lemmas.List.{length-append, length-drop, drop-drop}
use Rattle.std.proofs.lemmas.Bool.{le-leb, lt-leb, leb-true, leb-false}
use Rattle.uriparse_text.specs.Bytes.{ampersand}
use Rattle.uriparse_text.specs.Cuts.{following, before, after}
use Rattle.uriparse_text.specs.Pairs.{Pair, is_named, pair_of, pairs, pairs_left, piece_of}
use Rattle.uriparse_text.specs.Starts.{most}
use Rattle.uriparse_text.specs.Written.{IsFirstAt}
use Rattle.uriparse_text.proofs.lemmas.readings.CutLemmas.{before_after}
use Rattle.uriparse_text.proofs.lemmas.readings.NamedLemmas.{find_at}
use Rattle.uriparse_text.proofs.lemmas.readings.PairLemmas.{first_pair}
use Rattle.uriparse_ffi.specs.Pairs.{IsFirstNamedAt, IsNextNamedAt, IsPairAt, left_from}
use Rattle.uriparse_ffi.specs.declared.pairs.UriPair.{UriPair}
use Rattle.uriparse_ffi.proofs.lemmas.TextLemmas.{some_is}

abbrev left : List ℕ → ℕ → Bool → Option (List ℕ)
left q at v = cond {A = Option (List ℕ)} v (Some (drop at q)) None

pub left_some : (q : List ℕ) (at : ℕ) → at ≤ length q → left_from q at ≡ Some (drop at q)
left_some q at h = ap (left q at) (le-leb at (length q) h)

pub left_none : (q : List ℕ) (at : ℕ) → length q < at → left_from q at ≡ None
left_none q at h = ap (left q at) (lt-leb at (length q) h)

-- after a first text and a delimiter is what follows them
pub after_is : (mark : ℕ) (s t : List ℕ) (o : Option (List ℕ)) → s ++ following mark o ≡ t → left_from t (length s + 1) ≡ o
after_is mark s t None h =
    let whole : length s ≡ length t = ap length (sym (append-nil s) ∙ h) in
    left_none t (length s + 1) (omega arith)
after_is mark s t (Some u) h =
    let whole : length s + length (mark ∷ u) ≡ length t = sym (length-append s (mark ∷ u)) ∙ ap length h in
    left_some t (length s + 1) (omega arith)
    ∙ ap (λ x. Some (drop (length s + 1) x)) (sym h)
    ∙ ap (λ x. Some x) (drop-append-add s (mark ∷ u) 1)

-- what is left from a place of what is left from another one
pub left_twice : (q : List ℕ) (at n : ℕ) → at ≤ length q → left_from (drop at q) n ≡ left_from q (at + n)
left_twice q at n h = by_room (nat_le n (length (drop at q))) refl
  where
    len : length (drop at q) ≡ length q - at
    len = length-drop at q

    by_room : (v : Bool) → nat_le n (length (drop at q)) ≡ v → left_from (drop at q) n ≡ left_from q (at + n)
    by_room true e =
        let room : n ≤ length (drop at q) = leb-true n (length (drop at q)) e in
        left_some (drop at q) n room ∙ ap (λ t. Some t) (drop-drop n at q) ∙ sym (left_some q (at + n) (omega (arith, len)))
    by_room false e =
        let room : length (drop at q) < n = leb-false n (length (drop at q)) e in
        left_none (drop at q) n room ∙ sym (left_none q (at + n) (omega (arith, len)))

pub cut_size : (mark : ℕ) (t : List ℕ) → length (before mark t) + length (following mark (after mark t)) ≡ length t
cut_size mark t = sym (length-append (before mark t) (following mark (after mark t))) ∙ ap length (before_after mark t)

-- the slice of a text from there to its end
pub to_end : (q : List ℕ) (at : ℕ) → take (length q - at) (drop at q) ≡ drop at q
to_end q at = take_all (length q - at) (drop at q) (omega (arith, length-drop at q))

-- the pairs that are left are the first one, and those that are left after it
pub next_left : (q : List ℕ) (at : ℕ) → at ≤ length q
    → pairs_left (left_from q at) ≡ pair_of (before ampersand (drop at q)) ∷ pairs_left (left_from q (at + length (before ampersand (drop at q)) + 1))
next_left q at h =
    let u = drop at q in
    let s = before ampersand u in
    let places : at + (length s + 1) ≡ at + length s + 1 = omega arith in
    ap pairs_left (left_some q at h)
    ∙ first_pair u
    ∙ ap (λ o. pair_of s ∷ pairs_left o) (sym (after_is ampersand s u (after ampersand u) (before_after ampersand u)) ∙ left_twice q at (length s + 1) h ∙ ap (left_from q) places)

-- the first pair, and the others
pub first_is : (ps qs : List Pair) (p q : Pair) → ps ≡ p ∷ qs → (rs : List Pair) → ps ≡ q ∷ rs → (p ≡ q) × (qs ≡ rs)
first_is ps qs p q h rs k = let same : p ∷ qs ≡ q ∷ rs = sym h ∙ k in (cc, cc)

pub not_none : (ps qs : List Pair) (p : Pair) → ps ≡ p ∷ qs → ps ≡ [] → ⊥
not_none ps qs p h k = let bad : p ∷ qs ≡ [] = sym h ∙ k in absurd (cc)

-- ---- the first pair of a name

-- what is left from the place that a text precedes
pub left_at : (q front left : List ℕ) → q ≡ front ++ left → (length q - length left ≡ length front) × (left_from q (length q - length left) ≡ Some left)
left_at q front left whole =
    let size = ap length whole ∙ length-append front left in
    let place : length q - length left ≡ length front = omega (arith, size) in (
      place,
      left_some q (length q - length left) (omega (arith, size))
          ∙ ap (λ n. Some (drop n q)) place ∙ ap (λ t. Some (drop (length front) t)) whole ∙ ap (λ t. Some t) (drop-append_seam front left),
    )

module _ (name q left : List ℕ) (p : Pair) (at : IsFirstAt (is_named name) q left) (is : find (is_named name) (pairs q) ≡ Some p) where
  first : pair_of (before ampersand left) ≡ p
  first = some_is (pair_of (before ampersand left)) p (sym (find_at (is_named name) q left at) ∙ is)

  abbrev others : List Pair
  others = pairs_left (after ampersand left)

  from_place : pairs_left (left_from q (length q - length left)) ≡ p ∷ others
  from_place =
      ap pairs_left (left_at q (flat_map (λ p. piece_of p ++ ampersand ∷ []) at.others) left at.whole).1 ∙ first_pair left ∙ ap (λ r. r ∷ others) first

  pub named_at : (r : Option UriPair)
      → ((p : Pair) (ps : List Pair) → pairs_left (left_from q (length q - length left)) ≡ p ∷ ps → IsSome r × IfSome r (λ o. IsPairAt (length q - length left) p o))
      → ((p : Pair) (ps : List Pair) → pairs_left (left_from q (length q - length left)) ≡ p ∷ ps → length q < most
      → IfSome r (λ o. pairs_left (left_from q o.next) ≡ ps))
      → IsSome r × IfSome r (λ o. IsFirstNamedAt name q p o)
  named_at None found later = let some = (found p others from_place).0 in absurd (cc)
  named_at (Some o) found later = (
    (found p others from_place).0,
    record {
      others = at.others;
      none = at.none;
      place = subst (λ n. IsPairAt n p o) (left_at q (flat_map (λ p. piece_of p ++ ampersand ∷ []) at.others) left at.whole).0 (found p others from_place).1;
      split = λ short.
          at.split ∙ ap (λ l. at.others ++ l) (first_pair left ∙ ap (λ r. r ∷ others) first)
          ∙ ap (λ l. at.others ++ p ∷ l) (sym (later p others from_place short));
    },
  )

-- ---- the next pair of a name

-- what is left from the place that a text precedes, after a place before it
left_after : (q front left : List ℕ) (at : ℕ) → at ≤ length q → drop at q ≡ front ++ left
    → (length q - length left ≡ at + length front) × (left_from q (length q - length left) ≡ Some left)
left_after q front left at within whole =
    let size : length q - at ≡ length front + length left = sym (length-drop at q) ∙ ap length whole ∙ length-append front left in
    let place : length q - length left ≡ at + length front = omega (arith, size) in (
      place,
      left_some q (length q - length left) (omega (arith, size))
          ∙ ap (λ n. Some (drop n q)) place ∙ sym (left_twice_some at (length front))
          ∙ ap (λ t. Some (drop (length front) t)) whole ∙ ap (λ t. Some t) (drop-append_seam front left),
    )
  where
    left_twice_some : (at n : ℕ) → Some (drop n (drop at q)) ≡ Some (drop (at + n) q)
    left_twice_some at n = ap (λ t. Some t) (drop-drop n at q)

module _ (name q left : List ℕ) (at : ℕ) (p : Pair) (within : at ≤ length q) (first_at : IsFirstAt (is_named name) (drop at q) left)
    (is : find (is_named name) (pairs (drop at q)) ≡ Some p) where
  next : pair_of (before ampersand left) ≡ p
  next = some_is (pair_of (before ampersand left)) p (sym (find_at (is_named name) (drop at q) left first_at) ∙ is)

  abbrev later_pairs : List Pair
  later_pairs = pairs_left (after ampersand left)

  abbrev front : List ℕ
  front = flat_map (λ p. piece_of p ++ ampersand ∷ []) first_at.others

  from_there : pairs_left (left_from q (length q - length left)) ≡ p ∷ later_pairs
  from_there = ap pairs_left (left_after q front left at within first_at.whole).1 ∙ first_pair left ∙ ap (λ r. r ∷ later_pairs) next

  pub next_named_at : (r : Option UriPair)
      → ((p : Pair) (ps : List Pair) → pairs_left (left_from q (length q - length left)) ≡ p ∷ ps → IsSome r × IfSome r (λ o. IsPairAt (length q - length left) p o))
      → ((p : Pair) (ps : List Pair) → pairs_left (left_from q (length q - length left)) ≡ p ∷ ps → length q < most
      → IfSome r (λ o. pairs_left (left_from q o.next) ≡ ps))
      → IsSome r × IfSome r (λ o. IsNextNamedAt name q at p o)
  next_named_at None found later = let some = (found p later_pairs from_there).0 in absurd (cc)
  next_named_at (Some o) found later = (
    (found p later_pairs from_there).0,
    record {
      others = first_at.others;
      none = first_at.none;
      place = subst (λ n. IsPairAt n p o) (left_after q front left at within first_at.whole).0 (found p later_pairs from_there).1;
      split = λ short.
          ap pairs_left (left_some q at within) ∙ first_at.split ∙ ap (λ l. first_at.others ++ l) (first_pair left ∙ ap (λ r. r ∷ later_pairs) next)
          ∙ ap (λ l. first_at.others ++ p ∷ l) (sym (later p later_pairs from_there short));
    },
  )
