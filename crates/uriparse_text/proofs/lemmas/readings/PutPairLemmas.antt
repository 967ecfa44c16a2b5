-- Pairs of a query that are written to a buffer.
use Rattle.std.proofs.Common.{◌≡◌, ℕ, ◌-◌, take, Bool, true, false, List, [], ◌∷◌, ◌++◌, length, map, flat_map, Option, Some, refl, sym, ap, ◌∙◌, append-nil, append_assoc, arith}
use Rattle.std.specs.Prelude.{◌||◌, ◌↔◌, not, cond}
use Rattle.std.specs.List.{filter, list_any}
use Rattle.std.proofs.lemmas.Bool.{false≢true}
use Rattle.std.proofs.lemmas.List.{length-append, take_at}
use Rattle.uriparse_text.specs.Bytes.{ampersand}
use Rattle.uriparse_text.specs.Cuts.{before, after}
use Rattle.uriparse_text.specs.Pairs.{Pair, encoded_pair, is_empty_end, is_named, joined_pairs, pair_of, pairs, pairs_left, piece_of, with_appended, with_pair, without_empty_end, without_name}
use Rattle.uriparse_text.specs.Written.{IsFirstAt}
use Rattle.uriparse_text.proofs.lemmas.readings.PairLemmas.{first_pair, joined-pairs, joined_following, pairs-joined, piece_back}
use Rattle.uriparse_text.proofs.lemmas.readings.SetLemmas.{set-named, set-other}

-- the pairs, each after a "&", and each before one
abbrev pub led : List Pair → List ℕ
led ps = flat_map (λ p. ampersand ∷ piece_of p) ps

abbrev pub ended_pairs : List Pair → List ℕ
ended_pairs ps = flat_map (λ p. piece_of p ++ ampersand ∷ []) ps

led_pieces : (ps : List Pair) → flat_map (λ r. ampersand ∷ r) (map piece_of ps) ≡ led ps
led_pieces [] = refl
led_pieces (p ∷ ps) = ap (λ l. (ampersand ∷ piece_of p) ++ l) (led_pieces ps)

pub joined_first : (p : Pair) (ps : List Pair) → joined_pairs (p ∷ ps) ≡ piece_of p ++ led ps
joined_first p ps = joined_following ampersand (piece_of p) (map piece_of ps) ∙ ap (λ l. piece_of p ++ l) (led_pieces ps)

joined_more : (o : Pair) (os : List Pair) (p : Pair) (ps : List Pair) → joined_pairs (o ∷ (os ++ p ∷ ps)) ≡ piece_of o ++ ampersand ∷ joined_pairs (os ++ p ∷ ps)
joined_more o [] p ps = refl
joined_more o (x ∷ os) p ps = refl

pub joined_after : (os : List Pair) (p : Pair) (ps : List Pair) → joined_pairs (os ++ p ∷ ps) ≡ ended_pairs os ++ (piece_of p ++ led ps)
joined_after [] p ps = joined_first p ps
joined_after (o ∷ os) p ps =
    joined_more o os p ps ∙ ap (λ l. piece_of o ++ ampersand ∷ l) (joined_after os p ps)
    ∙ sym (append_assoc (piece_of o ++ ampersand ∷ []) (ended_pairs os) (piece_of p ++ led ps)
    ∙ append_assoc (piece_of o) (ampersand ∷ []) (ended_pairs os ++ (piece_of p ++ led ps)))

-- ---- the pairs that don't pass, one after another

module _ (passes : Pair → Bool) where
  filter-yes : (p : Pair) (ps : List Pair) → passes p ≡ true → filter passes (p ∷ ps) ≡ p ∷ filter passes ps
  filter-yes p ps e = rw e refl

  filter-no : (p : Pair) (ps : List Pair) → passes p ≡ false → filter passes (p ∷ ps) ≡ filter passes ps
  filter-no p ps e = rw e refl

  filter_later : (ps qs : List Pair) → list_any passes ps ≡ false → filter passes (ps ++ qs) ≡ filter passes qs
  filter_later [] qs none = refl
  filter_later (p ∷ ps) qs none = by_test (passes p) refl (filter_later ps qs)
    where
      by_test : (v : Bool) → passes p ≡ v → (list_any passes ps ≡ false → filter passes (ps ++ qs) ≡ filter passes qs) → filter passes ((p ∷ ps) ++ qs) ≡ filter passes qs
      by_test true e h = absurd (false≢true (sym none ∙ ap (λ v. v || list_any passes ps) e))
      by_test false e h = filter-no p (ps ++ qs) e ∙ h (ap (λ v. v || list_any passes ps) (sym e) ∙ none)

  pub filter_none : (ps : List Pair) → list_any passes ps ≡ false → filter passes ps ≡ []
  filter_none ps none = ap (filter passes) (sym (append-nil ps)) ∙ filter_later ps [] none

  any_none : (ps : List Pair) → filter passes ps ≡ [] → list_any passes ps ≡ false
  any_none [] none = refl
  any_none (p ∷ ps) none = by_test (passes p) refl (any_none ps)
    where
      by_test : (v : Bool) → passes p ≡ v → (filter passes ps ≡ [] → list_any passes ps ≡ false) → list_any passes (p ∷ ps) ≡ false
      by_test true e h = let some = ap length (sym (filter-yes p ps e) ∙ none) in absurd (omega (arith, some))
      by_test false e h = ap (λ v. v || list_any passes ps) e ∙ h (sym (filter-no p ps e) ∙ none)

  pub empty_when : (ps : List Pair) (r s : Bool) → s ≡ list_any passes ps → s ≡ not r → (r ≡ true) ↔ (filter passes ps ≡ [])
  empty_when ps r s is other = (
    (λ e. filter_none ps (sym is ∙ other ∙ ap not e)),
    (λ e. by_value r (sym other ∙ is ∙ any_none ps e)),
  )
    where
      by_value : (v : Bool) → not v ≡ false → v ≡ true
      by_value true e = refl
      by_value false e = absurd (false≢true (sym e))

  -- the pairs from the first one on that passes
  pub filter_at : (q left : List ℕ) → IsFirstAt passes q left
      → filter passes (pairs q) ≡ pair_of (before ampersand left) ∷ filter passes (pairs_left (after ampersand left))
  filter_at q left at =
      ap (filter passes) (at.split ∙ ap (λ l. at.others ++ l) (first_pair left))
      ∙ filter_later at.others (pair_of (before ampersand left) ∷ pairs_left (after ampersand left)) at.none
      ∙ filter-yes (pair_of (before ampersand left)) (pairs_left (after ampersand left)) at.first

  pub joined_at : (q left : List ℕ) → IsFirstAt passes q left
      → joined_pairs (filter passes (pairs q)) ≡ before ampersand left ++ led (filter passes (pairs_left (after ampersand left)))
  joined_at q left at =
      ap joined_pairs (filter_at q left at) ∙ joined_first (pair_of (before ampersand left)) (filter passes (pairs_left (after ampersand left)))
      ∙ ap (λ t. t ++ led (filter passes (pairs_left (after ampersand left)))) (piece_back (before ampersand left))

  first_left : (o : Option (List ℕ)) (left piece : List ℕ) (rest : Option (List ℕ)) → o ≡ Some left → piece ≡ before ampersand left → rest ≡ after ampersand left
      → pairs_left o ≡ pair_of piece ∷ pairs_left rest
  first_left o left piece rest some cut cutting =
      ap pairs_left some ∙ first_pair left ∙ ap (λ t. pair_of t ∷ pairs_left (after ampersand left)) (sym cut) ∙ ap (λ r. pair_of piece ∷ pairs_left r) (sym cutting)

  pub led_past : (o : Option (List ℕ)) (left piece : List ℕ) (rest : Option (List ℕ)) (v : Bool) → o ≡ Some left → piece ≡ before ampersand left
      → rest ≡ after ampersand left → v ≡ passes (pair_of piece) → v ≡ true
      → led (filter (λ p. not (passes p)) (pairs_left o)) ≡ led (filter (λ p. not (passes p)) (pairs_left rest))
  led_past o left piece rest v some cut cutting is said =
      ap (λ ps. led (filter (λ p. not (passes p)) ps)) (first_left o left piece rest some cut cutting)
      ∙ ap (λ b. led (cond (not b) (pair_of piece ∷ filter (λ p. not (passes p)) (pairs_left rest)) (filter (λ p. not (passes p)) (pairs_left rest)))) (sym is ∙ said)

  pub led_on : (o : Option (List ℕ)) (left piece : List ℕ) (rest : Option (List ℕ)) (v : Bool) → o ≡ Some left → piece ≡ before ampersand left
      → rest ≡ after ampersand left → v ≡ passes (pair_of piece) → v ≡ false
      → led (filter (λ p. not (passes p)) (pairs_left o)) ≡ (ampersand ∷ []) ++ (piece ++ led (filter (λ p. not (passes p)) (pairs_left rest)))
  led_on o left piece rest v some cut cutting is said =
      ap (λ ps. led (filter (λ p. not (passes p)) ps)) (first_left o left piece rest some cut cutting)
      ∙ ap (λ b. led (cond (not b) (pair_of piece ∷ filter (λ p. not (passes p)) (pairs_left rest)) (filter (λ p. not (passes p)) (pairs_left rest)))) (sym is ∙ said)
      ∙ ap (λ t. ampersand ∷ (t ++ led (filter (λ p. not (passes p)) (pairs_left rest)))) (piece_back piece)

-- ---- a pair that is set in place of the first one of its name

module _ (name : List ℕ) (new : Pair) where
  not_end : (o : Pair) (os : List Pair) (p : Pair) (ps : List Pair) → is_empty_end (o ∷ (os ++ p ∷ ps)) ≡ false
  not_end o [] p ps = refl
  not_end o (x ∷ os) p ps = refl

  set_after : (os : List Pair) (p : Pair) (ps : List Pair) → list_any (is_named name) os ≡ false → is_named name p ≡ true
      → with_pair name new (os ++ p ∷ ps) ≡ os ++ new ∷ without_name name ps
  set_after [] p ps none named = set-named name new p ps named
  set_after (o ∷ os) p ps none named = by_test (is_named name o) refl (set_after os p ps)
    where
      by_test : (v : Bool) → is_named name o ≡ v
          → (list_any (is_named name) os ≡ false → is_named name p ≡ true → with_pair name new (os ++ p ∷ ps) ≡ os ++ new ∷ without_name name ps)
          → with_pair name new ((o ∷ os) ++ p ∷ ps) ≡ (o ∷ os) ++ new ∷ without_name name ps
      by_test true e h = absurd (false≢true (sym none ∙ ap (λ v. v || list_any (is_named name) os) e))
      by_test false e h =
          set-other name new o (os ++ p ∷ ps) e (not_end o os p ps)
          ∙ ap (λ l. o ∷ l) (h (ap (λ v. v || list_any (is_named name) os) (sym e) ∙ none) named)

  pub set_at : (q left : List ℕ) (at : IsFirstAt (is_named name) q left)
      → joined_pairs (with_pair name new (pairs q)) ≡ ended_pairs at.others ++ (piece_of new ++ led (without_name name (pairs_left (after ampersand left))))
  set_at q left at =
      ap (λ ps. joined_pairs (with_pair name new ps)) (at.split ∙ ap (λ l. at.others ++ l) (first_pair left))
      ∙ ap joined_pairs (set_after at.others (pair_of (before ampersand left)) (pairs_left (after ampersand left)) at.none at.first)
      ∙ joined_after at.others new (without_name name (pairs_left (after ampersand left)))

-- what precedes the first pair that passes
pub front_at : (passes : Pair → Bool) (q left : List ℕ) (at : IsFirstAt passes q left) → take (length q - length left) q ≡ ended_pairs at.others
front_at passes q left at =
    let size = ap length at.whole ∙ length-append (ended_pairs at.others) left in
    ap (take (length q - length left)) at.whole ∙ take_at (ended_pairs at.others) left (length q - length left) (omega (arith, size))

-- ---- a pair that is appended

pub appended_text : (q mark : List ℕ) (new : Pair) → ((piece : List ℕ) → pairs ((q ++ mark) ++ piece) ≡ without_empty_end (pairs q) ++ pairs piece)
    → (q ++ mark) ++ piece_of (encoded_pair new) ≡ joined_pairs (with_appended (encoded_pair new) (pairs q))
appended_text q mark new marked =
    sym (joined-pairs ((q ++ mark) ++ piece_of (encoded_pair new)))
    ∙ ap joined_pairs
    (marked (piece_of (encoded_pair new)) ∙ ap (λ l. without_empty_end (pairs q) ++ l) (pairs-joined (new ∷ []) (omega arith)))
