-- Pairs of a query by their names, and a pair that is appended.
use Rattle.std.proofs.Common.{◌≡◌, ◌⊎◌, inl, inr, ℕ, Bor, ◌-◌, Bool, true, false, List, [], ◌∷◌, ◌++◌, length, take, drop, map, flat_map, Option, Some, None, refl, sym, ap, subst, ◌∙◌, append-nil, append_assoc, arith, suc}
use Rattle.std.specs.Prelude.{◌==◌, ◌↔◌, ◌&&◌, ◌||◌, bytes_eq, codes, not, cond, IfSome, unwrap_or}
use Rattle.std.specs.Option.{option_copied}
use Rattle.std.specs.List.{find, filter, list_any, onto_first, slice_split, starts_with, ends_with}
use Rattle.std.proofs.lemmas.Bool.{and_parts, eqb-true, false≢true}
use Rattle.std.proofs.lemmas.Bool.Decides.{nat_tests}
use Rattle.std.specs.Cmp.Lexicographic.{slice_cmp}
use Rattle.std.specs.Ordering.{is_eq, nat_cmp}
use Rattle.std.specs.declared.cmp.Ordering.{Ordering}
use Rattle.std.proofs.lemmas.Map.Text.{is_eq-slice_cmp}
use Rattle.std.proofs.lemmas.Slice.Eq.{bytes_eq-Decides}
use Rattle.std.proofs.lemmas.List.Concat.{flat_map-append}
use Rattle.std.proofs.lemmas.List.Folds.{list_any-append}
use Rattle.std.proofs.lemmas.List.Splits.{slice_split-cons_yes, slice_split-cons_no}
use Rattle.std.proofs.lemmas.List.{length-append, map-append}
use Rattle.uriparse_text.specs.Bytes.{ampersand, asterisk, equals_sign}
use Rattle.uriparse_text.specs.Cuts.{before, after, following, lacks}
use Rattle.uriparse_text.specs.Coding.{are_bytes, decoded, value_of}
use Rattle.uriparse_text.specs.Tokens.{tokens}
use Rattle.uriparse_text.specs.declared.internal.token.Token.{Token}
use Rattle.uriparse_text.specs.Query.{IsQuery}
use Rattle.uriparse_text.specs.declared.internal.class.Class.TheVariants.{Query}
use Rattle.uriparse_text.specs.Pairs.{Pair, encoded_in_pair, is_ampersand, is_among_names, is_empty_end, is_named, joined_pairs, pair_of, pairs, pairs_left, piece_of, stands_for, without_empty_end, without_name, without_names}
use Rattle.uriparse_text.specs.Written.{EndsOpen, IsFirstAt}
use Rattle.uriparse_text.proofs.lemmas.tokens.CodingLemmas.{decoded-cons, decoded-nil}
use Rattle.uriparse_text.proofs.lemmas.readings.CutLemmas.{before_after}
use Rattle.uriparse_text.proofs.lemmas.readings.PairLemmas.{ampersand_plain, decoded-encoded_without, first_pair, first_piece, in_both, in_join, joined-pairs, joined_query, name_lacks, pieces_left, query_pieces, pair_texts}
use Rattle.uriparse_text.proofs.lemmas.readings.SetLemmas.{end_alone}

-- ---- the pairs before and after a "&"

onto_both : (b : ℕ) (ss : List (List ℕ)) (s : List ℕ) (more others : List (List ℕ)) → ss ≡ s ∷ more → onto_first b (ss ++ others) ≡ onto_first b ss ++ others
onto_both b ss s more others e = ap (λ l. onto_first b (l ++ others)) e ∙ sym (ap (λ l. onto_first b l ++ others) e)

split_both : (q s : List ℕ) → slice_split is_ampersand (q ++ ampersand ∷ s) ≡ slice_split is_ampersand q ++ slice_split is_ampersand s
split_both [] s = slice_split-cons_yes is_ampersand ampersand s refl
split_both (b ∷ q) s = by_test (is_ampersand b) refl (split_both q s)
  where
    by_test : (v : Bool) → is_ampersand b ≡ v → slice_split is_ampersand (q ++ ampersand ∷ s) ≡ slice_split is_ampersand q ++ slice_split is_ampersand s
        → slice_split is_ampersand ((b ∷ q) ++ ampersand ∷ s) ≡ slice_split is_ampersand (b ∷ q) ++ slice_split is_ampersand s
    by_test true e h =
        slice_split-cons_yes is_ampersand b (q ++ ampersand ∷ s) e ∙ ap (λ l. [] ∷ l) h
        ∙ ap (λ l. l ++ slice_split is_ampersand s) (sym (slice_split-cons_yes is_ampersand b q e))
    by_test false e h =
        slice_split-cons_no is_ampersand b (q ++ ampersand ∷ s) e ∙ ap (onto_first b) h
        ∙ onto_both b (slice_split is_ampersand q) (before ampersand q) (pieces_left ampersand (after ampersand q)) (slice_split is_ampersand s) (first_piece ampersand q)
        ∙ ap (λ l. l ++ slice_split is_ampersand s) (sym (slice_split-cons_no is_ampersand b q e))

pub pairs_both : (q s : List ℕ) → pairs (q ++ ampersand ∷ s) ≡ pairs q ++ pairs s
pairs_both q s = ap (map pair_of) (split_both q s) ∙ map-append pair_of (slice_split is_ampersand q) (slice_split is_ampersand s)

-- ---- the first pair that passes

abbrev ended_pairs : List Pair → List ℕ
ended_pairs ps = flat_map (λ p. piece_of p ++ ampersand ∷ []) ps

-- what follows some pairs of a query is one
query_left : (ps : List Pair) (left : List ℕ) → IsQuery (ended_pairs ps ++ left) → IsQuery left
query_left [] left h = h
query_left (p ∷ ps) left h =
    query_left ps left
    (in_both Query ampersand refl refl (piece_of p) (ended_pairs ps ++ left)
    (subst IsQuery (append_assoc (piece_of p ++ ampersand ∷ []) (ended_pairs ps) left ∙ append_assoc (piece_of p) (ampersand ∷ []) (ended_pairs ps ++ left)) h)).1

module _ (passes : Pair → Bool) where
  -- what is left of a query after some of its pairs, of which none passes
  pub record Seeking (q : List ℕ) (rest : Option (List ℕ)) : Type 0 where
    pub others : List Pair
    pub whole : IfSome rest (λ left. q ≡ flat_map (λ p. piece_of p ++ ampersand ∷ []) others ++ left)
    pub split : pairs q ≡ others ++ pairs_left rest
    pub none : list_any passes others ≡ false

  pub seeking_first : (q : List ℕ) → Seeking q (Some q)
  seeking_first q = record { others = []; whole = refl; split = refl; none = refl }

  seeking_on : (q left : List ℕ) → Seeking q (Some left) → passes (pair_of (before ampersand left)) ≡ false → Seeking q (after ampersand left)
  seeking_on q left s fails =
      let p = pair_of (before ampersand left) in
      record {
        others = s.others ++ p ∷ [];
        whole = by_after (after ampersand left) (before_after ampersand left);
        split = s.split ∙ ap (λ l. s.others ++ l) (first_pair left) ∙ sym (append_assoc s.others (p ∷ []) (pairs_left (after ampersand left)));
        none = list_any-append passes s.others (p ∷ []) ∙ ap (λ v. v || list_any passes (p ∷ [])) s.none ∙ ap (λ v. v || false) fails;
      }
    where
      by_after : (o : Option (List ℕ)) → before ampersand left ++ following ampersand o ≡ left
          → IfSome o (λ t. q ≡ flat_map (λ p. piece_of p ++ ampersand ∷ []) (s.others ++ pair_of (before ampersand left) ∷ []) ++ t)
      by_after None e = tt
      by_after (Some t) e =
          let piece = before ampersand left in
          let back : piece_of (pair_of piece) ≡ piece = before_after equals_sign piece in
          s.whole ∙ ap (λ l. ended_pairs s.others ++ l) (sym e)
          ∙ sym (append_assoc (ended_pairs s.others) (piece ++ ampersand ∷ []) t ∙ ap (λ l. ended_pairs s.others ++ l) (append_assoc piece (ampersand ∷ []) t))
          ∙ ap (λ l. (ended_pairs s.others ++ (l ++ ampersand ∷ [])) ++ t) (sym back)
          ∙ ap (λ l. (ended_pairs s.others ++ l) ++ t) (sym (append-nil (piece_of (pair_of piece) ++ ampersand ∷ [])))
          ∙ ap (λ l. l ++ t) (sym (flat_map-append (λ p. piece_of p ++ ampersand ∷ []) s.others (pair_of piece ∷ [])))

  -- the same by what the calls of a loop return
  pub seeking_next : (q : List ℕ) (o : Option (List ℕ)) (left piece : List ℕ) (answer : Bool) (rest : Option (List ℕ)) → Seeking q o → o ≡ Some left
      → piece ≡ before ampersand left → answer ≡ passes (pair_of piece) → answer ≡ false → rest ≡ after ampersand left → Seeking q rest
  seeking_next q o left piece answer rest s some cut is fails cutting =
      subst (Seeking q) (sym cutting)
      (seeking_on q left (subst (Seeking q) some s) (ap (λ t. passes (pair_of t)) (sym cut) ∙ sym is ∙ fails))

  pub seeking_found : (q : List ℕ) (o : Option (List ℕ)) (left piece : List ℕ) (answer : Bool) → Seeking q o → o ≡ Some left
      → piece ≡ before ampersand left → answer ≡ passes (pair_of piece) → answer ≡ true → IsFirstAt passes q left
  seeking_found q o left piece answer s some cut is passing =
      let at = subst (Seeking q) some s in
      record { others = at.others; whole = at.whole; split = at.split; none = at.none; first = ap (λ t. passes (pair_of t)) (sym cut) ∙ sym is ∙ passing }

  pub seeking_none : (q : List ℕ) (o : Option (List ℕ)) → Seeking q o → o ≡ None → list_any passes (pairs q) ≡ false
  seeking_none q o s none =
      let at = subst (Seeking q) none s in
      ap (list_any passes) (at.split ∙ append-nil at.others) ∙ at.none

  pub any_at : (q left : List ℕ) → IsFirstAt passes q left → list_any passes (pairs q) ≡ true
  any_at q left at =
      ap (list_any passes) (at.split ∙ ap (λ l. at.others ++ l) (first_pair left))
      ∙ list_any-append passes at.others (pair_of (before ampersand left) ∷ pairs_left (after ampersand left))
      ∙ ap (λ v. v || list_any passes (pair_of (before ampersand left) ∷ pairs_left (after ampersand left))) at.none
      ∙ ap (λ v. v || list_any passes (pairs_left (after ampersand left))) at.first

  find-yes : (p : Pair) (ps : List Pair) → passes p ≡ true → find passes (p ∷ ps) ≡ Some p
  find-yes p ps e = rw e refl

  find-no : (p : Pair) (ps : List Pair) → passes p ≡ false → find passes (p ∷ ps) ≡ find passes ps
  find-no p ps e = rw e refl

  find_later : (ps qs : List Pair) → list_any passes ps ≡ false → find passes (ps ++ qs) ≡ find passes qs
  find_later [] qs none = refl
  find_later (p ∷ ps) qs none = by_test (passes p) refl (find_later ps qs)
    where
      by_test : (v : Bool) → passes p ≡ v → (list_any passes ps ≡ false → find passes (ps ++ qs) ≡ find passes qs) → find passes ((p ∷ ps) ++ qs) ≡ find passes qs
      by_test true e h = absurd (false≢true (sym none ∙ ap (λ v. v || list_any passes ps) e))
      by_test false e h = find-no p (ps ++ qs) e ∙ h (ap (λ v. v || list_any passes ps) (sym e) ∙ none)

  pub find_at : (q left : List ℕ) → IsFirstAt passes q left → find passes (pairs q) ≡ Some (pair_of (before ampersand left))
  find_at q left at =
      ap (find passes) (at.split ∙ ap (λ l. at.others ++ l) (first_pair left))
      ∙ find_later at.others (pair_of (before ampersand left) ∷ pairs_left (after ampersand left)) at.none
      ∙ find-yes (pair_of (before ampersand left)) (pairs_left (after ampersand left)) at.first

  pub find_none : (ps : List Pair) → list_any passes ps ≡ false → find passes ps ≡ None
  find_none ps none = ap (find passes) (sym (append-nil ps)) ∙ find_later ps [] none

  pub query_at : (q left : List ℕ) → IsFirstAt passes q left → IsQuery q → IsQuery left
  query_at q left at h = query_left at.others left (subst IsQuery at.whole h)

  -- the value of the pair there
  pub value_query : (q left : List ℕ) → IsFirstAt passes q left → IsQuery q → IfSome (after equals_sign (before ampersand left)) IsQuery
  value_query q left at h = (pair_texts (before ampersand left) (query_pieces left (query_at q left at h)).0).1

-- the value, or nothing
pub or_empty : (o : Option (Bor (List ℕ))) (d r : Bor (List ℕ)) → r ≡ unwrap_or o d → d.now ≡ [] → r.now ≡ unwrap_or (option_copied o) []
or_empty None d r is none = ap (λ (x : Bor (List ℕ)). x.now) is ∙ none
or_empty (Some t) d r is none = ap (λ (x : Bor (List ℕ)). x.now) is

pub query_or_empty : (o : Option (List ℕ)) → IfSome o IsQuery → IsQuery (unwrap_or o [])
query_or_empty None h = joined_query []
query_or_empty (Some t) h = h

-- ---- a pair that is appended

-- the pair of an empty piece is at the end of the pairs, or is not
empty_end : (ps : List Pair) → (without_empty_end ps ≡ ps) ⊎ ((os : List Pair) × (e : Pair) × (ps ≡ os ++ e ∷ []) × (piece_of e ≡ []))
empty_end [] = inl refl
empty_end (p ∷ ps) = by_end (is_empty_end (p ∷ ps)) refl (empty_end ps)
  where
    alone : (qs : List Pair) → is_empty_end (p ∷ qs) ≡ true → piece_of p ≡ []
    alone [] e = (bytes_eq-Decides (piece_of p) []).0 e
    alone (q ∷ qs) e = absurd (false≢true e)

    by_end : (v : Bool) → is_empty_end (p ∷ ps) ≡ v → (without_empty_end ps ≡ ps) ⊎ ((os : List Pair) × (e : Pair) × (ps ≡ os ++ e ∷ []) × (piece_of e ≡ []))
        → (without_empty_end (p ∷ ps) ≡ p ∷ ps) ⊎ ((os : List Pair) × (e : Pair) × (p ∷ ps ≡ os ++ e ∷ []) × (piece_of e ≡ []))
    by_end true e h = inr ([], p, ap (λ l. p ∷ l) (end_alone [] p ps e), alone ps e)
    by_end false e (inl h) = inl (ap (λ v. cond v [] (p ∷ without_empty_end ps)) e ∙ ap (λ l. p ∷ l) h)
    by_end false e (inr (os, x, is, none)) = inr (p ∷ os, x, ap (λ l. p ∷ l) is, none)

joined_last : (ps : List Pair) (e : Pair) → piece_of e ≡ [] → (joined_pairs (ps ++ e ∷ []) ≡ []) ⊎ ((front : List ℕ) × (joined_pairs (ps ++ e ∷ []) ≡ front ++ ampersand ∷ []))
joined_last [] e none = inl none
joined_last (p ∷ []) e none = inr (piece_of p, ap (λ t. piece_of p ++ ampersand ∷ t) none)
joined_last (p ∷ q ∷ ps) e none = by_later (joined_last (q ∷ ps) e none)
  where
    by_later : (joined_pairs ((q ∷ ps) ++ e ∷ []) ≡ []) ⊎ ((front : List ℕ) × (joined_pairs ((q ∷ ps) ++ e ∷ []) ≡ front ++ ampersand ∷ []))
        → (joined_pairs ((p ∷ q ∷ ps) ++ e ∷ []) ≡ []) ⊎ ((front : List ℕ) × (joined_pairs ((p ∷ q ∷ ps) ++ e ∷ []) ≡ front ++ ampersand ∷ []))
    by_later (inl h) = inr (piece_of p, ap (λ t. piece_of p ++ ampersand ∷ t) h)
    by_later (inr (front, h)) =
        inr (piece_of p ++ ampersand ∷ front, ap (λ t. piece_of p ++ ampersand ∷ t) h ∙ sym (append_assoc (piece_of p) (ampersand ∷ front) (ampersand ∷ [])))

-- a text that neither is empty nor ends in a "&" has no empty piece at the end
no_empty_end : (q : List ℕ) → (q ≡ [] → ⊥) → ((front : List ℕ) → q ≡ front ++ ampersand ∷ [] → ⊥) → without_empty_end (pairs q) ≡ pairs q
no_empty_end q some closed = by_end (empty_end (pairs q))
  where
    by_text : (joined_pairs (pairs q) ≡ []) ⊎ ((front : List ℕ) × (joined_pairs (pairs q) ≡ front ++ ampersand ∷ [])) → without_empty_end (pairs q) ≡ pairs q
    by_text (inl h) = absurd (some (sym (joined-pairs q) ∙ h))
    by_text (inr (front, h)) = absurd (closed front (sym (joined-pairs q) ∙ h))

    by_end : (without_empty_end (pairs q) ≡ pairs q) ⊎ ((os : List Pair) × (e : Pair) × (pairs q ≡ os ++ e ∷ []) × (piece_of e ≡ []))
        → without_empty_end (pairs q) ≡ pairs q
    by_end (inl h) = h
    by_end (inr (os, e, is, none)) =
        by_text (subst (λ ps. (joined_pairs ps ≡ []) ⊎ ((front : List ℕ) × (joined_pairs ps ≡ front ++ ampersand ∷ []))) (sym is) (joined_last os e none))

drop_end : (ps : List Pair) (e : Pair) → piece_of e ≡ [] → without_empty_end (ps ++ e ∷ []) ≡ ps
drop_end [] e none = ap (λ v. cond v [] (e ∷ [])) ((bytes_eq-Decides (piece_of e) []).1 none)
drop_end (p ∷ []) e none = ap (λ l. p ∷ l) (drop_end [] e none)
drop_end (p ∷ q ∷ ps) e none = ap (λ l. p ∷ l) (drop_end (q ∷ ps) e none)

same_ends : (f g : List ℕ) (b c : ℕ) → f ++ b ∷ [] ≡ g ++ c ∷ [] → b ≡ c
same_ends [] [] b c e = cc
same_ends [] (y ∷ g) b c e =
    let size = ap length e ∙ ap (λ n. suc n) (length-append g (c ∷ [])) in absurd (omega (arith, size))
same_ends (x ∷ f) [] b c e =
    let size = sym (ap (λ n. suc n) (length-append f (b ∷ []))) ∙ ap length e in absurd (omega (arith, size))
same_ends (x ∷ f) (y ∷ g) b c e = same_ends f g b c (ap (drop 1) e)

pub empty_open : (q : List ℕ) → q ≡ [] → EndsOpen q
empty_open q e = inl e

pub last_open : (q front : List ℕ) (b : ℕ) (v : Bool) → q ≡ front ++ b ∷ [] → v ≡ (b == ampersand) → (v ≡ true) ↔ EndsOpen q
last_open q front b v cut is = ((λ yes. inr (front, cut ∙ ap (λ x. front ++ x ∷ []) (eqb-true b ampersand (sym is ∙ yes)))), by_open)
  where
    by_open : EndsOpen q → v ≡ true
    by_open (inl none) = let size = sym (length-append front (b ∷ [])) ∙ ap length (sym cut ∙ none) in absurd (omega (arith, size))
    by_open (inr (other, e)) = is ∙ ap (λ x. x == ampersand) (same_ends front other b ampersand (sym cut ∙ e))

-- the mark between a query and another piece
abbrev pub IsMark : List ℕ → List ℕ → Type 0
IsMark q mark = ((mark ≡ []) × EndsOpen q) ⊎ ((mark ≡ ampersand ∷ []) × (EndsOpen q → ⊥))

pub marked_pairs : (q mark : List ℕ) → IsMark q mark → (s : List ℕ) → pairs ((q ++ mark) ++ s) ≡ without_empty_end (pairs q) ++ pairs s
marked_pairs q mark (inl (none, inl empty)) s =
    ap (λ m. pairs ((q ++ m) ++ s)) none ∙ ap (λ t. pairs ((t ++ []) ++ s)) empty ∙ ap (λ t. without_empty_end (pairs t) ++ pairs s) (sym empty)
marked_pairs q mark (inl (none, inr (front, is))) s =
    ap (λ m. pairs ((q ++ m) ++ s)) none ∙ ap (λ t. pairs (t ++ s)) (append-nil q ∙ is) ∙ ap pairs (append_assoc front (ampersand ∷ []) s) ∙ pairs_both front s
    ∙ ap (λ l. l ++ pairs s) (sym (ap (λ t. without_empty_end (pairs t)) is ∙ ap without_empty_end (pairs_both front []) ∙ drop_end (pairs front) ([], None) refl))
marked_pairs q mark (inr (one, closed)) s =
    ap (λ m. pairs ((q ++ m) ++ s)) one ∙ ap pairs (append_assoc q (ampersand ∷ []) s) ∙ pairs_both q s
    ∙ ap (λ l. l ++ pairs s) (sym (no_empty_end q (λ e. closed (inl e)) (λ front e. closed (inr (front, e)))))

pub marked_query : (q mark : List ℕ) → IsMark q mark → (s : List ℕ) → IsQuery q → IsQuery s → IsQuery ((q ++ mark) ++ s)
marked_query q mark (inl (none, inl empty)) s h k = subst IsQuery (sym (ap (λ m. (q ++ m) ++ s) none ∙ ap (λ t. (t ++ []) ++ s) empty)) k
marked_query q mark (inl (none, inr (front, is))) s h k =
    let left = (in_both Query ampersand refl refl front [] (subst IsQuery is h)).0 in
    subst IsQuery (sym (ap (λ m. (q ++ m) ++ s) none ∙ ap (λ t. t ++ s) (append-nil q ∙ is) ∙ append_assoc front (ampersand ∷ []) s))
    (in_join front s ampersand refl refl ampersand_plain left k)
marked_query q mark (inr (one, closed)) s h k =
    subst IsQuery (sym (ap (λ m. (q ++ m) ++ s) one ∙ append_assoc q (ampersand ∷ []) s)) (in_join q s ampersand refl refl ampersand_plain h k)

-- ---- a text that begins with what another one stands for

module _ (rest after left later : List ℕ) (t u : Token) (v w : ℕ) (cut : tokens rest ≡ t ∷ tokens after) (other_cut : tokens left ≡ u ∷ tokens later)
    (value : v ≡ value_of t) (other_value : w ≡ value_of u) where
  both_first : starts_with (λ b c. b == c) (decoded rest) (decoded left) ≡ ((w == v) && starts_with (λ b c. b == c) (decoded after) (decoded later))
  both_first =
      ap (λ d. starts_with (λ b c. b == c) d (decoded left)) (decoded-cons rest after t cut)
      ∙ ap (starts_with (λ b c. b == c) (value_of t ∷ decoded after)) (decoded-cons left later u other_cut)
      ∙ ap (λ x. (x == value_of t) && starts_with (λ b c. b == c) (decoded after) (decoded later)) (sym other_value)
      ∙ ap (λ x. (w == x) && starts_with (λ b c. b == c) (decoded after) (decoded later)) (sym value)

  pub begins_next : (whole : Bool) → (w == v) ≡ true → starts_with (λ b c. b == c) (decoded rest) (decoded left) ≡ whole
      → starts_with (λ b c. b == c) (decoded after) (decoded later) ≡ whole
  begins_next whole same h = ap (λ x. x && starts_with (λ b c. b == c) (decoded after) (decoded later)) (sym same) ∙ sym both_first ∙ h

  pub begins_other : (whole : Bool) → (w == v) ≡ false → starts_with (λ b c. b == c) (decoded rest) (decoded left) ≡ whole → false ≡ whole
  begins_other whole other h = ap (λ x. x && starts_with (λ b c. b == c) (decoded after) (decoded later)) (sym other) ∙ sym both_first ∙ h

pub begins_end : (rest left later : List ℕ) (u : Token) (whole : Bool) → rest ≡ [] → tokens left ≡ u ∷ tokens later
    → starts_with (λ b c. b == c) (decoded rest) (decoded left) ≡ whole → false ≡ whole
begins_end rest left later u whole none cut h =
    ap (starts_with (λ b c. b == c) []) (sym (decoded-cons left later u cut)) ∙ ap (λ d. starts_with (λ b c. b == c) d (decoded left)) (sym (decoded-nil rest none)) ∙ h

pub begins_all : (rest left : List ℕ) (whole : Bool) → left ≡ [] → starts_with (λ b c. b == c) (decoded rest) (decoded left) ≡ whole → true ≡ whole
begins_all rest left whole none h = ap (starts_with (λ b c. b == c) (decoded rest)) (sym (decoded-nil left none)) ∙ h

-- ---- a name and a pattern without a "*" at its end

pub plain_stands : (pattern name : List ℕ) (o : Ordering) (v w : Bool) → w ≡ ends_with (λ b c. b == c) pattern (asterisk ∷ []) → w ≡ false
    → o ≡ slice_cmp nat_cmp (decoded pattern) (decoded name) → v ≡ is_eq o → v ≡ stands_for pattern name
plain_stands pattern name o v w ends none is equal =
    equal ∙ ap is_eq is ∙ is_eq-slice_cmp (decoded pattern) (decoded name)
    ∙ ap (λ x. cond x (starts_with (λ b c. b == c) (decoded name) (decoded (take (length pattern - 1) pattern))) (bytes_eq (decoded pattern) (decoded name)))
    (sym none ∙ ends)

-- ---- laws

-- a pair that passes is found if it is the only one that does
pub find_only : (passes : Pair → Bool) (ps : List Pair) (p : Pair) → filter passes ps ≡ p ∷ [] → find passes ps ≡ Some p
find_only passes [] p e = let none = ap length e in absurd (omega (arith, none))
find_only passes (q ∷ ps) p kept = by_test (passes q) refl (find_only passes ps p)
  where
    by_test : (v : Bool) → passes q ≡ v → (filter passes ps ≡ p ∷ [] → find passes ps ≡ Some p) → find passes (q ∷ ps) ≡ Some p
    by_test true e h =
        let first : q ∷ filter passes ps ≡ p ∷ [] = sym (ap (λ v. cond v (q ∷ filter passes ps) (filter passes ps)) e) ∙ kept in
        let same : q ≡ p = cc in
        ap (λ v. cond v (Some q) (find passes ps)) e ∙ ap Some same
    by_test false e h =
        let left : filter passes (q ∷ ps) ≡ filter passes ps = ap (λ v. cond v (q ∷ filter passes ps) (filter passes ps)) e in
        ap (λ v. cond v (Some q) (find passes ps)) e ∙ h (sym left ∙ kept)

-- pairs of which those that pass are left out
module _ (passes : Pair → Bool) where
  pub none_pass_left : (ps : List Pair) → filter passes (filter (λ p. not (passes p)) ps) ≡ []
  none_pass_left [] = refl
  none_pass_left (p ∷ ps) = by_test (passes p) refl (none_pass_left ps)
    where
      by_test : (v : Bool) → passes p ≡ v → filter passes (filter (λ p. not (passes p)) ps) ≡ [] → filter passes (filter (λ p. not (passes p)) (p ∷ ps)) ≡ []
      by_test true e h = rw e h
      by_test false e h = rw e (rw e h)

  pub left_twice : (ps : List Pair) → filter (λ p. not (passes p)) (filter (λ p. not (passes p)) ps) ≡ filter (λ p. not (passes p)) ps
  left_twice [] = refl
  left_twice (p ∷ ps) = by_test (passes p) refl (left_twice ps)
    where
      by_test : (v : Bool) → passes p ≡ v → filter (λ p. not (passes p)) (filter (λ p. not (passes p)) ps) ≡ filter (λ p. not (passes p)) ps
          → filter (λ p. not (passes p)) (filter (λ p. not (passes p)) (p ∷ ps)) ≡ filter (λ p. not (passes p)) (p ∷ ps)
      by_test true e h = rw e h
      by_test false e h = rw e (rw e (ap (λ l. p ∷ l) h))

same_left : (f g : Pair → Bool) → ((p : Pair) → f p ≡ g p) → (ps : List Pair) → filter (λ p. not (f p)) ps ≡ filter (λ p. not (g p)) ps
same_left f g same [] = refl
same_left f g same (p ∷ ps) = rw (same p) (by_test (g p) (same_left f g same ps))
  where
    by_test : (v : Bool) → filter (λ p. not (f p)) ps ≡ filter (λ p. not (g p)) ps
        → cond (not v) (p ∷ filter (λ p. not (f p)) ps) (filter (λ p. not (f p)) ps) ≡ cond (not v) (p ∷ filter (λ p. not (g p)) ps) (filter (λ p. not (g p)) ps)
    by_test true h = h
    by_test false h = ap (λ l. p ∷ l) h

pub one_name : (n : Pair) (ps : List Pair) → ends_with (λ b c. b == c) n.0 (asterisk ∷ []) ≡ false
    → without_names (n ∷ []) ps ≡ without_name (decoded n.0) ps
one_name n ps plain = same_left (is_among_names (n ∷ [])) (is_named (decoded n.0)) same ps
  where
    turned : (s t : List ℕ) (v w : Bool) → bytes_eq s t ≡ v → bytes_eq t s ≡ w → v ≡ w
    turned s t true true e f = refl
    turned s t true false e f = absurd (false≢true (sym f ∙ (bytes_eq-Decides t s).1 (sym ((bytes_eq-Decides s t).0 e))))
    turned s t false true e f = absurd (false≢true (sym e ∙ (bytes_eq-Decides s t).1 (sym ((bytes_eq-Decides t s).0 f))))
    turned s t false false e f = refl

    or_no : (v : Bool) → (v || false) ≡ v
    or_no true = refl
    or_no false = refl

    same : (p : Pair) → is_among_names (n ∷ []) p ≡ is_named (decoded n.0) p
    same p =
        or_no (stands_for n.0 p.0)
        ∙ ap (λ v. cond v (starts_with (λ b c. b == c) (decoded p.0) (decoded (take (length n.0 - 1) n.0))) (bytes_eq (decoded n.0) (decoded p.0))) plain
        ∙ turned (decoded n.0) (decoded p.0) (bytes_eq (decoded n.0) (decoded p.0)) (bytes_eq (decoded p.0) (decoded n.0)) refl refl

-- ---- a name that is data

-- a text without "*" doesn't end in one
no_asterisk : (t : List ℕ) → lacks asterisk t ≡ true → ends_with (λ b c. b == c) t (asterisk ∷ []) ≡ false
no_asterisk [] h = refl
no_asterisk (b ∷ []) h = by_byte (b == asterisk) refl
  where
    by_byte : (v : Bool) → (b == asterisk) ≡ v → ends_with (λ b c. b == c) (b ∷ []) (asterisk ∷ []) ≡ false
    by_byte true e = absurd (false≢true (sym (ap not e) ∙ (and_parts _ _ h).0))
    by_byte false e = grind (arith, nat_tests)
no_asterisk (b ∷ c ∷ t) h =
    let size : length (b ∷ c ∷ t) - 1 ≡ suc (length (c ∷ t) - 1) = omega arith in
    rw (size) (no_asterisk (c ∷ t) (and_parts _ _ h).1)

pub named_data : (name : List ℕ) (o : Option (List ℕ)) (ps : List Pair) → are_bytes name ≡ true
    → without_names ((encoded_in_pair name, o) ∷ []) ps ≡ without_name name ps
named_data name o ps h =
    one_name (encoded_in_pair name, o) ps (no_asterisk (encoded_in_pair name) (name_lacks asterisk refl refl refl name))
    ∙ ap (λ n. without_name n ps) (decoded-encoded_without Query (codes "&=+*") name h)
