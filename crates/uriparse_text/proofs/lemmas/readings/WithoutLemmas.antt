-- Queries without some of their pairs.
use Rattle.std.proofs.Common.{◌≡◌, ℕ, ◌+◌, ◌-◌, ◌<◌, Bool, true, false, List, [], ◌∷◌, ◌++◌, length, take, map, flat_map, Option, Some, None, refl, sym, ap, subst, ◌∙◌, append-nil, append_assoc, arith, suc}
use Rattle.std.specs.Prelude.{not, ⊤, IfSome}
use Rattle.std.specs.List.{filter, list_all, join_with_byte}
use Rattle.std.proofs.lemmas.Bool.{and_from, and_parts}
use Rattle.std.proofs.Math.Bool.{not-not}
use Rattle.std.proofs.lemmas.List.{length-append, take_at, map-append}
use Rattle.std.proofs.lemmas.List.Concat.{flat_map-append}
use Rattle.std.proofs.lemmas.List.Folds.{list_all-append}
use Rattle.std.proofs.lemmas.List.Elements.{filter_from_retain}
use Rattle.uriparse_text.specs.Bytes.{ampersand}
use Rattle.uriparse_text.specs.Cuts.{lacks, following, before, after}
use Rattle.uriparse_text.specs.Query.{IsQuery}
use Rattle.uriparse_text.specs.Pairs.{Pair, is_ampersand, joined_pairs, pair_of, pairs, pairs_left, AnswersBy, IsWithout}
use Rattle.uriparse_text.specs.Written.{is_piece, AreWritten, ArePairsWritten}
use Rattle.uriparse_text.proofs.lemmas.readings.CutLemmas.{before_after, up_to-none}
use Rattle.uriparse_text.proofs.lemmas.readings.PairLemmas.{ampersand_plain, first_pair, in_join, joined-pairs, query_pieces, split_joined}

-- ---- the query of the pieces

pub written_join : (s : List ℕ) (ss : List (List ℕ)) → flat_map (λ s. s ++ ampersand ∷ []) (s ∷ ss) ≡ join_with_byte ampersand (s ∷ ss) ++ ampersand ∷ []
written_join s [] = append-nil (s ++ ampersand ∷ [])
written_join s (r ∷ ss) =
    ap (λ t. (s ++ ampersand ∷ []) ++ t) (written_join r ss)
    ∙ append_assoc s (ampersand ∷ []) (join_with_byte ampersand (r ∷ ss) ++ ampersand ∷ [])
    ∙ sym (append_assoc s (ampersand ∷ join_with_byte ampersand (r ∷ ss)) (ampersand ∷ []))

pub join_query : (s : List ℕ) (ss : List (List ℕ)) → list_all is_piece (s ∷ ss) ≡ true → IsQuery (join_with_byte ampersand (s ∷ ss))
join_query s [] h = (and_parts (lacks ampersand s) _ (and_parts (is_piece s) true h).0).1
join_query s (r ∷ ss) h =
    let both = and_parts (is_piece s) (list_all is_piece (r ∷ ss)) h in
    in_join s (join_with_byte ampersand (r ∷ ss)) ampersand refl refl ampersand_plain (and_parts (lacks ampersand s) _ both.0).1 (join_query r ss both.1)

all_lack : (ss : List (List ℕ)) → list_all is_piece ss ≡ true → list_all (lacks ampersand) ss ≡ true
all_lack [] h = refl
all_lack (s ∷ ss) h =
    let both = and_parts (is_piece s) (list_all is_piece ss) h in
    and_from _ _ (and_parts (lacks ampersand s) _ both.0).0 (all_lack ss both.1)

pub join_pairs : (s : List ℕ) (ss : List (List ℕ)) → list_all is_piece (s ∷ ss) ≡ true → pairs (join_with_byte ampersand (s ∷ ss)) ≡ map pair_of (s ∷ ss)
join_pairs s ss h =
    let both = and_parts (lacks ampersand s) (list_all (lacks ampersand) ss) (all_lack (s ∷ ss) h) in
    ap (map pair_of) (split_joined ampersand refl s ss both.0 both.1)

-- without its last byte the text is the query of its pieces
pub shortened : (ss : List (List ℕ)) (t : List ℕ) → AreWritten ss t → 0 < length t → IsQuery (take (length t - 1) t) × (pairs (take (length t - 1) t) ≡ map pair_of ss)
shortened [] t w some = let none = ap length w.0 in absurd (omega (arith, none, some))
shortened (s ∷ ss) t w some =
    let joined = join_with_byte ampersand (s ∷ ss) in
    let is : t ≡ joined ++ ampersand ∷ [] = w.0 ∙ written_join s ss in
    let size = ap length is ∙ length-append joined (ampersand ∷ []) in
    let cut : take (length t - 1) t ≡ joined = ap (take (length t - 1)) is ∙ take_at joined (ampersand ∷ []) (length t - 1) (omega (arith, size)) in
    (subst IsQuery (sym cut) (join_query s ss w.1), ap pairs cut ∙ join_pairs s ss w.1)

pub none_written : (ss : List (List ℕ)) (t : List ℕ) → AreWritten ss t → length t ≡ 0 → ss ≡ []
none_written [] t w none = refl
none_written (s ∷ ss) t w none =
    let joined = join_with_byte ampersand (s ∷ ss) in
    let size = ap length (w.0 ∙ written_join s ss) ∙ length-append joined (ampersand ∷ []) in
    absurd (omega (arith, none, size))

pub some_written : (ss : List (List ℕ)) (t : List ℕ) → AreWritten ss t → 0 < length ss → 0 < length t
some_written [] t w some = absurd (omega (arith, some))
some_written (s ∷ ss) t w some =
    let joined = join_with_byte ampersand (s ∷ ss) in
    let size = ap length (w.0 ∙ written_join s ss) ∙ length-append joined (ampersand ∷ []) in
    omega (arith, size)

-- ---- one piece after another

module _ {F : Type 0} (step : F → List ℕ → Option (List ℕ) → Bool → F → Type 0) where
  -- what is left of a query after some of its pieces, with the text that is written for these
  pub record Going (first : F) (q : List ℕ) (test : F) (rest : Option (List ℕ)) (text : List ℕ) : Type 0 where
    pub pieces : List (List ℕ)
    pub written : AreWritten pieces text
    pub query : IfSome rest IsQuery
    pub later : (kept : List Pair) → IsWithout step test (pairs_left rest) kept → IsWithout step first (pairs q) (map pair_of pieces ++ kept)

  pub going_first : (first : F) (q : List ℕ) → IsQuery q → Going first q first (Some q) []
  going_first first q h = record { pieces = []; written = (refl, refl); query = h; later = λ kept is. is }

  pub going_last : (first : F) (q : List ℕ) (test : F) (o : Option (List ℕ)) (text : List ℕ) → Going first q test o text → o ≡ None
      → (ss : List (List ℕ)) × AreWritten ss text × IsWithout step first (pairs q) (map pair_of ss)
  going_last first q test o text g none =
      let last = subst (λ r. Going first q test r text) none g in
      (last.pieces, last.written, subst (IsWithout step first (pairs q)) (append-nil (map pair_of last.pieces)) (last.later [] ([], test, refl, refl, refl)))

  without_dropped : (f g : F) (p : Pair) (ps kept : List Pair) → step f p.0 p.1 true g → IsWithout step g ps kept → IsWithout step f (p ∷ ps) kept
  without_dropped f g p ps kept call (bs, last, size, turns, is) = (false ∷ bs, last, ap (λ n. suc n) size, (g, call, turns), is)

  without_kept : (f g : F) (p : Pair) (ps kept : List Pair) → step f p.0 p.1 false g → IsWithout step g ps kept → IsWithout step f (p ∷ ps) (p ∷ kept)
  without_kept f g p ps kept call (bs, last, size, turns, is) = (true ∷ bs, last, ap (λ n. suc n) size, (g, call, turns), ap (λ l. p ∷ l) is)

  pub going_past : (first : F) (q : List ℕ) (test next : F) (left text : List ℕ) → Going first q test (Some left) text
      → step test (pair_of (before ampersand left)).0 (pair_of (before ampersand left)).1 true next → Going first q next (after ampersand left) text
  going_past first q test next left text g call = record {
    pieces = g.pieces;
    written = g.written;
    query = (query_pieces left g.query).1;
    later = λ kept is. g.later kept
        (subst (λ ps. IsWithout step test ps kept) (sym (first_pair left))
        (without_dropped test next (pair_of (before ampersand left)) (pairs_left (after ampersand left)) kept call is));
  }

  pub going_on : (first : F) (q : List ℕ) (test next : F) (left text : List ℕ) → Going first q test (Some left) text
      → step test (pair_of (before ampersand left)).0 (pair_of (before ampersand left)).1 false next
      → Going first q next (after ampersand left) (text ++ (before ampersand left ++ ampersand ∷ []))
  going_on first q test next left text g call =
      let piece = before ampersand left in
      let is : is_piece piece ≡ true = and_from _ _ (up_to-none is_ampersand left) (query_pieces left g.query).0 in
      record {
        pieces = g.pieces ++ piece ∷ [];
        written = (
          ap (λ t. t ++ (piece ++ ampersand ∷ [])) g.written.0
              ∙ ap (λ t. flat_map (λ s. s ++ ampersand ∷ []) g.pieces ++ t) (sym (append-nil (piece ++ ampersand ∷ [])))
              ∙ sym (flat_map-append (λ s. s ++ ampersand ∷ []) g.pieces (piece ∷ [])),
          list_all-append is_piece g.pieces (piece ∷ []) ∙ and_from _ _ g.written.1 (and_from _ _ is refl),
        );
        query = (query_pieces left g.query).1;
        later = λ kept rest. subst (IsWithout step first (pairs q))
            (sym (append_assoc (map pair_of g.pieces) (pair_of piece ∷ []) kept) ∙ ap (λ l. l ++ kept) (sym (map-append pair_of g.pieces (piece ∷ []))))
            (g.later (pair_of piece ∷ kept)
            (subst (λ ps. IsWithout step test ps (pair_of piece ∷ kept)) (sym (first_pair left))
            (without_kept test next (pair_of piece) (pairs_left (after ampersand left)) kept call rest)));
      }

  -- the same by what the calls of a loop return
  pub next_past : (first : F) (q : List ℕ) (test next : F) (o : Option (List ℕ)) (left text piece : List ℕ) (answer : Bool) (rest : Option (List ℕ))
      → Going first q test o text → o ≡ Some left → piece ≡ before ampersand left → step test (pair_of piece).0 (pair_of piece).1 answer next → answer ≡ true
      → rest ≡ after ampersand left → Going first q next rest text
  next_past first q test next o left text piece answer rest g some cut call said cutting =
      subst (λ r. Going first q next r text) (sym cutting)
      (going_past first q test next left text (subst (λ r. Going first q test r text) some g)
      (subst (λ s. step test (pair_of s).0 (pair_of s).1 true next) cut (subst (λ b. step test (pair_of piece).0 (pair_of piece).1 b next) said call)))

  pub next_on : (first : F) (q : List ℕ) (test next : F) (o : Option (List ℕ)) (left text more piece : List ℕ) (answer : Bool) (rest : Option (List ℕ))
      → Going first q test o text → o ≡ Some left → piece ≡ before ampersand left → step test (pair_of piece).0 (pair_of piece).1 answer next → answer ≡ false
      → rest ≡ after ampersand left → more ≡ (text ++ piece) ++ ampersand ∷ [] → Going first q next rest more
  next_on first q test next o left text more piece answer rest g some cut call said cutting written =
      subst (λ r. Going first q next r more) (sym cutting)
      (subst (Going first q next (after ampersand left))
      (ap (λ s. text ++ (s ++ ampersand ∷ [])) (sym cut) ∙ sym (append_assoc text piece (ampersand ∷ [])) ∙ sym written)
      (going_on first q test next left text (subst (λ r. Going first q test r text) some g)
      (subst (λ s. step test (pair_of s).0 (pair_of s).1 false next) cut (subst (λ b. step test (pair_of piece).0 (pair_of piece).1 b next) said call))))

-- ---- the loop ends

abbrev pub left_of : Option (List ℕ) → ℕ
left_of None = 0
left_of (Some t) = 1 + length t

pub left_of-after : (left : List ℕ) → left_of (after ampersand left) < left_of (Some left)
left_of-after left = by_after (after ampersand left) (before_after ampersand left)
  where
    by_after : (o : Option (List ℕ)) → before ampersand left ++ following ampersand o ≡ left → left_of o < 1 + length left
    by_after None e = omega arith
    by_after (Some t) e =
        let size = ap length (sym e) ∙ length-append (before ampersand left) (ampersand ∷ t) in
        omega (arith, size)

pub next_smaller : (o : Option (List ℕ)) (left : List ℕ) (rest : Option (List ℕ)) → o ≡ Some left → rest ≡ after ampersand left → left_of rest < left_of o
next_smaller o left rest some cutting = subst (λ n. n < left_of o) (ap left_of (sym cutting)) (subst (λ n. left_of (after ampersand left) < n) (ap left_of (sym some)) (left_of-after left))

-- ---- a test that is a function

pub without_is : {F : Type 0} (step : F → List ℕ → Option (List ℕ) → Bool → F → Type 0) (test : Pair → Bool)
    → AnswersBy step test → (f : F) (ps kept : List Pair) → IsWithout step f ps kept
    → kept ≡ filter (λ p. not (test p)) ps
without_is step test says =
    filter_from_retain (λ f p b g. step f p.0 p.1 (not b) g) (λ p. not (test p)) (λ f p b g call. sym (not-not b) ∙ ap not (says f g p (not b) call))

-- ---- a test of a pair, which has no state

abbrev pub TestStep : (Pair → Bool) → ⊤ → List ℕ → Option (List ℕ) → Bool → ⊤ → Type 0
TestStep passes _ own value b _ = b ≡ passes (own, value)

-- The text has the pieces of the pairs that don't pass once the loop ends.
pub others_last : (passes : Pair → Bool) (q : List ℕ) (o : Option (List ℕ)) (text : List ℕ) → Going (TestStep passes) tt q tt o text → o ≡ None
    → ArePairsWritten (filter (λ p. not (passes p)) (pairs q)) text
others_last passes q o text g none =
    let (ss, written, chosen) = going_last (TestStep passes) tt q tt o text g none in
    (ss, written, without_is (TestStep passes) passes (λ _ _ _ _ says. says) tt (pairs q) (map pair_of ss) chosen)

-- pairs of which none is left out are those of the same query
pub same_query : (q : List ℕ) (o : Option (List ℕ)) → pairs_left o ≡ pairs q → o ≡ Some q
same_query q None e = let none = ap length e ∙ ap length (first_pair q) in absurd (omega (arith, none))
same_query q (Some u) e = ap Some (sym (joined-pairs u) ∙ ap joined_pairs e ∙ joined-pairs q)
