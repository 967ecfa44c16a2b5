-- Queries with one pair of a name.
use Rattle.std.proofs.Common.{◌≡◌, ℕ, Bor, ◌<◌, Bool, true, false, List, [], ◌∷◌, ◌++◌, length, map, Option, Some, None, refl, sym, ap, subst, ◌∙◌, append-nil, append_assoc, arith}
use Rattle.std.specs.Prelude.{◌||◌, ◌&&◌, not, bytes_eq, cond, is_none, is_some, IfSome}
use Rattle.std.specs.Option.{option_copied}
use Rattle.std.specs.List.{filter, list_all, list_any}
use Rattle.std.proofs.lemmas.Bool.{and_from, false≢true}
use Rattle.std.proofs.lemmas.Slice.Eq.{bytes_eq-Decides}
use Rattle.std.proofs.lemmas.List.{length-map, map-append}
use Rattle.std.proofs.lemmas.List.Concat.{flat_map-append}
use Rattle.std.proofs.lemmas.List.Folds.{list_all-append}
use Rattle.uriparse_text.specs.Bytes.{ampersand}
use Rattle.uriparse_text.specs.Cuts.{before, after}
use Rattle.uriparse_text.specs.Coding.{decoded}
use Rattle.uriparse_text.specs.Query.{IsQuery}
use Rattle.uriparse_text.specs.Pairs.{Pair, is_ampersand, pair_of, pairs, pairs_left, piece_of, are_pair_bytes, decoded_pair, encoded_in_pair, encoded_pair, is_empty_end, is_named, without_empty_end, without_name, with_pair}
use Rattle.uriparse_text.specs.Written.{is_piece, makes_room, next_pieces, ended, AreWritten, ArePairsWritten}
use Rattle.uriparse_text.proofs.lemmas.readings.CutLemmas.{up_to-none}
use Rattle.uriparse_text.proofs.lemmas.readings.PairLemmas.{first_pair, pair_back, pair_decoded, piece_back, piece_lacks, piece_query, query_pieces}

module _ (name : List ℕ) (given : Pair) where
  -- the pair that is set, and its piece
  abbrev pub new : Pair
  new = encoded_pair given

  abbrev pub piece : List ℕ
  piece = piece_of (encoded_pair given)

  is_new_piece : is_piece piece ≡ true
  is_new_piece = and_from _ _ (piece_lacks given) (piece_query given)

  -- what becomes of the pairs that are left
  abbrev pub set_left : Bool → List Pair → List Pair
  set_left true ps = without_name name ps
  set_left false ps = with_pair name (encoded_pair given) ps

  -- the pair of a piece is alone, and the piece is empty
  piece_end : (o : Option (List ℕ)) (s : List ℕ) → is_empty_end (pair_of s ∷ pairs_left o) ≡ (is_none o && bytes_eq s [])
  piece_end None s = ap (λ t. bytes_eq t []) (piece_back s)
  piece_end (Some t) s = ap (λ ps. is_empty_end (pair_of s ∷ ps)) (first_pair t)

  next_left : (done : Bool) (o : Option (List ℕ)) (s : List ℕ)
      → map pair_of (next_pieces name piece done (is_none o) s) ++ set_left (done || makes_room name (is_none o) s) (pairs_left o)
      ≡ set_left done (pair_of s ∷ pairs_left o)
  next_left done o s = by_name done (is_named name (pair_of s)) refl (is_none o && bytes_eq s []) refl
    where
      no_other : (o : Option (List ℕ)) → (is_none o && bytes_eq s []) ≡ true → pairs_left o ≡ []
      no_other None e = refl
      no_other (Some t) e = absurd (false≢true e)

      by_name : (done b : Bool) → is_named name (pair_of s) ≡ b → (c : Bool) → (is_none o && bytes_eq s []) ≡ c
          → map pair_of (next_pieces name piece done (is_none o) s) ++ set_left (done || makes_room name (is_none o) s) (pairs_left o)
          ≡ set_left done (pair_of s ∷ pairs_left o)
      by_name true true e c f = rw e refl
      by_name true false e c f = rw e refl
      by_name false true e c f = rw e (ap (λ p. p ∷ without_name name (pairs_left o)) (pair_back given))
      by_name false false e true f =
          rw (e, f, piece_end o s, f, no_other o f) (ap (λ p. p ∷ []) (pair_back given))
      by_name false false e false f = rw (e, f, piece_end o s, f) refl

  next_is_piece : (done last : Bool) (s : List ℕ) → is_piece s ≡ true → list_all is_piece (next_pieces name piece done last s) ≡ true
  next_is_piece done last s h = by_room (not done && makes_room name last s) refl
    where
      by_name : (b : Bool) → list_all is_piece (cond b [] (s ∷ [])) ≡ true
      by_name true = refl
      by_name false = and_from _ _ h refl

      by_room : (b : Bool) → (not done && makes_room name last s) ≡ b → list_all is_piece (next_pieces name piece done last s) ≡ true
      by_room true e = rw e (and_from _ _ is_new_piece refl)
      by_room false e = rw e (by_name (is_named name (pair_of s)))

  -- what is left of a query after some of its pieces, with the text that is written for these
  pub record Setting (q : List ℕ) (done : Bool) (rest : Option (List ℕ)) (text : List ℕ) : Type 0 where
    pub pieces : List (List ℕ)
    pub written : AreWritten pieces text
    pub query : IfSome rest IsQuery
    pub later : map pair_of pieces ++ set_left done (pairs_left rest) ≡ with_pair name (encoded_pair given) (pairs q)

  pub setting_first : (q : List ℕ) → IsQuery q → Setting q false (Some q) []
  setting_first q h = record { pieces = []; written = (refl, refl); query = h; later = refl }

  add_pieces : (ss new : List (List ℕ)) (text : List ℕ) → AreWritten ss text → list_all is_piece new ≡ true → AreWritten (ss ++ new) (text ++ ended new)
  add_pieces ss new text w h =
      (ap (λ t. t ++ ended new) w.0 ∙ sym (flat_map-append (λ s. s ++ ampersand ∷ []) ss new), list_all-append is_piece ss new ∙ and_from _ _ w.1 h)

  setting_on : (q : List ℕ) (done : Bool) (left text : List ℕ) → Setting q done (Some left) text
      → Setting q (done || makes_room name (is_none (after ampersand left)) (before ampersand left)) (after ampersand left)
      (text ++ ended (next_pieces name piece done (is_none (after ampersand left)) (before ampersand left)))
  setting_on q done left text g =
      let s = before ampersand left in
      let more = after ampersand left in
      let new = next_pieces name piece done (is_none more) s in
      let is : is_piece s ≡ true = and_from _ _ (up_to-none is_ampersand left) (query_pieces left g.query).0 in
      record {
        pieces = g.pieces ++ new;
        written = add_pieces g.pieces new text g.written (next_is_piece done (is_none more) s is);
        query = (query_pieces left g.query).1;
        later =
            ap (λ l. l ++ set_left (done || makes_room name (is_none more) s) (pairs_left more)) (map-append pair_of g.pieces new)
            ∙ append_assoc (map pair_of g.pieces) (map pair_of new) (set_left (done || makes_room name (is_none more) s) (pairs_left more))
            ∙ ap (λ l. map pair_of g.pieces ++ l) (next_left done more s ∙ ap (set_left done) (sym (first_pair left)))
            ∙ g.later;
      }

  -- the same by what the calls of a loop return
  pub setting_next : (q : List ℕ) (done next last : Bool) (o : Option (List ℕ)) (left text more s : List ℕ) (rest : Option (List ℕ)) → Setting q done o text
      → o ≡ Some left → s ≡ before ampersand left → rest ≡ after ampersand left → last ≡ is_none rest → next ≡ (done || makes_room name last s)
      → more ≡ text ++ ended (next_pieces name piece done last s) → Setting q next rest more
  setting_next q done next last o left text more s rest g some cut cutting ends said written =
      let at : last ≡ is_none (after ampersand left) = ends ∙ ap is_none cutting in
      subst (λ r. Setting q next r more) (sym cutting)
      (subst (λ b. Setting q b (after ampersand left) more)
      (sym (said ∙ ap (λ u. done || makes_room name last u) cut ∙ ap (λ l. done || makes_room name l (before ampersand left)) at))
      (subst (Setting q (done || makes_room name (is_none (after ampersand left)) (before ampersand left)) (after ampersand left))
      (sym (written ∙ ap (λ u. text ++ ended (next_pieces name piece done last u)) cut
      ∙ ap (λ l. text ++ ended (next_pieces name piece done l (before ampersand left))) at))
      (setting_on q done left text (subst (λ r. Setting q done r text) some g))))

  -- at the end
  pub setting_done : (q : List ℕ) (done : Bool) (o : Option (List ℕ)) (text : List ℕ) → Setting q done o text → done ≡ true → o ≡ None
      → ArePairsWritten (with_pair name (encoded_pair given) (pairs q)) text
  setting_done q done o text g said none =
      let last = subst (λ r. Setting q true r text) none (subst (λ b. Setting q b o text) said g) in
      (last.pieces, last.written, sym (append-nil (map pair_of last.pieces)) ∙ last.later)

  pub setting_open : (q : List ℕ) (done : Bool) (o : Option (List ℕ)) (text more : List ℕ) → Setting q done o text → done ≡ false → o ≡ None
      → more ≡ text ++ ended (piece_of (encoded_pair given) ∷ [])
      → ArePairsWritten (with_pair name (encoded_pair given) (pairs q)) more
  setting_open q done o text more g said none written =
      let last = subst (λ r. Setting q false r text) none (subst (λ b. Setting q b o text) said g) in (
        last.pieces ++ piece ∷ [],
        subst (AreWritten (last.pieces ++ piece ∷ [])) (sym written) (add_pieces last.pieces (piece ∷ []) text last.written (and_from _ _ is_new_piece refl)),
        map-append pair_of last.pieces (piece ∷ []) ∙ ap (λ p. map pair_of last.pieces ++ p ∷ []) (pair_back given) ∙ last.later,
      )

-- ---- some pair is there

pub with_pair_some : (name : List ℕ) (new : Pair) (ps : List Pair) → 0 < length (with_pair name new ps)
with_pair_some name new [] = omega arith
with_pair_some name new (p ∷ ps) = by_name (is_named name p)
  where
    by_end : (b : Bool) → 0 < length (cond b (new ∷ []) (p ∷ with_pair name new ps))
    by_end true = omega arith
    by_end false = omega arith

    by_name : (b : Bool) → 0 < length (cond b (new ∷ without_name name ps) (cond (is_empty_end (p ∷ ps)) (new ∷ []) (p ∷ with_pair name new ps)))
    by_name true = omega arith
    by_name false = by_end (is_empty_end (p ∷ ps))

pub some_pieces : (name : List ℕ) (new : Pair) (ps : List Pair) (ss : List (List ℕ)) → map pair_of ss ≡ with_pair name new ps → 0 < length ss
some_pieces name new ps ss is =
    let size = sym (length-map ss pair_of) ∙ ap length is in
    let some = with_pair_some name new ps in
    omega (arith, size, some)

pub none_copied : (o : Option (Bor (List ℕ))) (r : Bool) → is_some o ≡ not r → r ≡ is_none (option_copied o)
none_copied None true e = refl
none_copied None false e = absurd (false≢true e)
none_copied (Some t) true e = absurd (false≢true (sym e))
none_copied (Some t) false e = refl

-- ---- the pairs of the name, and the others

module _ (name : List ℕ) where
  pub none_named : (ps : List Pair) → filter (is_named name) (without_name name ps) ≡ []
  none_named [] = refl
  none_named (p ∷ ps) = by_name (is_named name p) refl (none_named ps)
    where
      by_name : (b : Bool) → is_named name p ≡ b → filter (is_named name) (without_name name ps) ≡ [] → filter (is_named name) (without_name name (p ∷ ps)) ≡ []
      by_name true e h = rw e h
      by_name false e h = rw e (rw e h)

  pub others_twice : (ps : List Pair) → without_name name (without_name name ps) ≡ without_name name ps
  others_twice [] = refl
  others_twice (p ∷ ps) = by_name (is_named name p) refl (others_twice ps)
    where
      by_name : (b : Bool) → is_named name p ≡ b → without_name name (without_name name ps) ≡ without_name name ps
          → without_name name (without_name name (p ∷ ps)) ≡ without_name name (p ∷ ps)
      by_name true e h = rw e h
      by_name false e h = rw e (rw e (ap (λ l. p ∷ l) h))

  filter-yes : (p : Pair) (ps : List Pair) → is_named name p ≡ true → filter (is_named name) (p ∷ ps) ≡ p ∷ filter (is_named name) ps
  filter-yes p ps e = rw e refl

  filter-no : (p : Pair) (ps : List Pair) → is_named name p ≡ false → filter (is_named name) (p ∷ ps) ≡ filter (is_named name) ps
  filter-no p ps e = rw e refl

  others-yes : (p : Pair) (ps : List Pair) → is_named name p ≡ true → without_name name (p ∷ ps) ≡ without_name name ps
  others-yes p ps e = rw e refl

  others-no : (p : Pair) (ps : List Pair) → is_named name p ≡ false → without_name name (p ∷ ps) ≡ p ∷ without_name name ps
  others-no p ps e = rw e refl

  pub all_others : (ps : List Pair) → filter (is_named name) ps ≡ [] → without_name name ps ≡ ps
  all_others [] none = refl
  all_others (p ∷ ps) none = by_name (is_named name p) refl (all_others ps)
    where
      by_name : (b : Bool) → is_named name p ≡ b → (filter (is_named name) ps ≡ [] → without_name name ps ≡ ps) → without_name name (p ∷ ps) ≡ p ∷ ps
      by_name true e h =
          let some : p ∷ filter (is_named name) ps ≡ [] = sym (filter-yes p ps e) ∙ none in
          let none = ap length some in absurd (omega (arith, none))
      by_name false e h = others-no p ps e ∙ ap (λ l. p ∷ l) (h (sym (filter-no p ps e) ∙ none))

  -- an empty piece at the end is the only pair that is left
  pub end_alone : (p : Pair) (ps : List Pair) → is_empty_end (p ∷ ps) ≡ true → ps ≡ []
  end_alone p [] e = refl
  end_alone p (q ∷ ps) e = absurd (false≢true e)

  module _ (new : Pair) where
    pub set-named : (p : Pair) (ps : List Pair) → is_named name p ≡ true → with_pair name new (p ∷ ps) ≡ new ∷ without_name name ps
    set-named p ps e = rw e refl

    set-end : (p : Pair) (ps : List Pair) → is_named name p ≡ false → is_empty_end (p ∷ ps) ≡ true → with_pair name new (p ∷ ps) ≡ new ∷ []
    set-end p ps e f = rw (e, f) refl

    pub set-other : (p : Pair) (ps : List Pair) → is_named name p ≡ false → is_empty_end (p ∷ ps) ≡ false
        → with_pair name new (p ∷ ps) ≡ p ∷ with_pair name new ps
    set-other p ps e f = rw (e, f) refl

    pub named_pairs : (ps : List Pair) → is_named name new ≡ true → filter (is_named name) (with_pair name new ps) ≡ new ∷ []
    named_pairs [] named = filter-yes new [] named
    named_pairs (p ∷ ps) named = by_name (is_named name p) refl (is_empty_end (p ∷ ps)) refl (named_pairs ps named)
      where
        by_name : (b : Bool) → is_named name p ≡ b → (c : Bool) → is_empty_end (p ∷ ps) ≡ c → filter (is_named name) (with_pair name new ps) ≡ new ∷ []
            → filter (is_named name) (with_pair name new (p ∷ ps)) ≡ new ∷ []
        by_name true e c f h =
            ap (filter (is_named name)) (set-named p ps e) ∙ filter-yes new (without_name name ps) named ∙ ap (λ l. new ∷ l) (none_named ps)
        by_name false e true f h = ap (filter (is_named name)) (set-end p ps e f) ∙ filter-yes new [] named
        by_name false e false f h = ap (filter (is_named name)) (set-other p ps e f) ∙ filter-no p (with_pair name new ps) e ∙ h

    pub other_pairs : (ps : List Pair) → is_named name new ≡ true → list_any (is_named name) ps ≡ true
        → without_name name (with_pair name new ps) ≡ without_name name ps
    other_pairs [] named some = absurd (false≢true some)
    other_pairs (p ∷ ps) named some = by_name (is_named name p) refl (is_empty_end (p ∷ ps)) refl (other_pairs ps named)
      where
        later : is_named name p ≡ false → list_any (is_named name) ps ≡ true
        later e = ap (λ v. v || list_any (is_named name) ps) (sym e) ∙ some

        by_name : (b : Bool) → is_named name p ≡ b → (c : Bool) → is_empty_end (p ∷ ps) ≡ c
            → (list_any (is_named name) ps ≡ true → without_name name (with_pair name new ps) ≡ without_name name ps)
            → without_name name (with_pair name new (p ∷ ps)) ≡ without_name name (p ∷ ps)
        by_name true e c f h =
            ap (without_name name) (set-named p ps e) ∙ others-yes new (without_name name ps) named ∙ others_twice ps ∙ sym (others-yes p ps e)
        by_name false e true f h = absurd (false≢true (ap (list_any (is_named name)) (sym (end_alone p ps f)) ∙ later e))
        by_name false e false f h =
            ap (without_name name) (set-other p ps e f) ∙ others-no p (with_pair name new ps) e ∙ ap (λ l. p ∷ l) (h (later e)) ∙ sym (others-no p ps e)

    pub set_at_end : (ps : List Pair) → list_any (is_named name) ps ≡ false → with_pair name new ps ≡ without_empty_end ps ++ new ∷ []
    set_at_end [] none = refl
    set_at_end (p ∷ ps) none = by_name (is_named name p) refl (is_empty_end (p ∷ ps)) refl (set_at_end ps)
      where
        by_name : (b : Bool) → is_named name p ≡ b → (c : Bool) → is_empty_end (p ∷ ps) ≡ c
            → (list_any (is_named name) ps ≡ false → with_pair name new ps ≡ without_empty_end ps ++ new ∷ [])
            → with_pair name new (p ∷ ps) ≡ without_empty_end (p ∷ ps) ++ new ∷ []
        by_name true e c f h = absurd (false≢true (sym none ∙ ap (λ v. v || list_any (is_named name) ps) e))
        by_name false e true f h = set-end p ps e f ∙ ap (λ v. cond v [] (p ∷ without_empty_end ps) ++ new ∷ []) (sym f)
        by_name false e false f h =
            set-other p ps e f ∙ ap (λ l. p ∷ l) (h (ap (λ v. v || list_any (is_named name) ps) (sym e) ∙ none))
            ∙ ap (λ v. cond v [] (p ∷ without_empty_end ps) ++ new ∷ []) (sym f)

    pub set_twice : (ps : List Pair) → is_named name new ≡ true → with_pair name new (with_pair name new ps) ≡ with_pair name new ps
    set_twice [] named = set-named new [] named
    set_twice (p ∷ ps) named = by_name (is_named name p) refl (is_empty_end (p ∷ ps)) refl (set_twice ps named)
      where
        no_end : (qs : List Pair) → 0 < length qs → is_empty_end (p ∷ qs) ≡ false
        no_end [] some = absurd (omega (arith, some))
        no_end (q ∷ qs) some = refl

        by_name : (b : Bool) → is_named name p ≡ b → (c : Bool) → is_empty_end (p ∷ ps) ≡ c → with_pair name new (with_pair name new ps) ≡ with_pair name new ps
            → with_pair name new (with_pair name new (p ∷ ps)) ≡ with_pair name new (p ∷ ps)
        by_name true e c f h =
            ap (with_pair name new) (set-named p ps e) ∙ set-named new (without_name name ps) named ∙ ap (λ l. new ∷ l) (others_twice ps)
            ∙ sym (set-named p ps e)
        by_name false e true f h = ap (with_pair name new) (set-end p ps e f) ∙ set-named new [] named ∙ sym (set-end p ps e f)
        by_name false e false f h =
            ap (with_pair name new) (set-other p ps e f)
            ∙ set-other p (with_pair name new ps) e (no_end (with_pair name new ps) (with_pair_some name new ps))
            ∙ ap (λ l. p ∷ l) h ∙ sym (set-other p ps e f)

-- ---- the pair that was set is read back

pub set_back : (p : Pair) (ps qs : List Pair) → are_pair_bytes p ≡ true → qs ≡ with_pair p.0 (encoded_pair p) ps
    → map decoded_pair (filter (is_named p.0) qs) ≡ p ∷ []
set_back p ps qs bytes e =
    let same : decoded (encoded_in_pair p.0) ≡ p.0 = ap (λ d. d.0) back in
    let named : is_named p.0 (encoded_pair p) ≡ true = ap (λ d. bytes_eq d p.0) same ∙ (bytes_eq-Decides p.0 p.0).1 refl in
    ap (λ l. map decoded_pair (filter (is_named p.0) l)) e ∙ ap (map decoded_pair) (named_pairs p.0 (encoded_pair p) ps named) ∙ ap (λ d. d ∷ []) back
  where
    back : decoded_pair (encoded_pair p) ≡ p
    back = pair_decoded p bytes
