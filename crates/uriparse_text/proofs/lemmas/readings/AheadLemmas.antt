-- Pairs of a query whose names are among others, many pairs at a time.
use Rattle.std.proofs.Common.{◌≡◌, ℕ, Bor, ◌+◌, ◌-◌, ◌<◌, ◌≤◌, Bool, true, false, List, [], ◌∷◌, ◌++◌, length, take, drop, map, Option, Some, None, refl, sym, ap, subst, ◌∙◌, append-nil, append_assoc, get_or, replicate, set, zero, suc, arith}
use Rattle.std.specs.Prelude.{◌||◌}
use Rattle.std.specs.List.{list_any}
use Rattle.std.proofs.lemmas.List.{drop_more, drop-set-lt, length-map, length-set, length-take-le, map-append, set-get_or, take-map, take_at, take_more_set}
use Rattle.std.proofs.lemmas.List.Folds.{list_any-append}
use Rattle.uriparse_text.specs.Bytes.{ampersand, equals_sign}
use Rattle.uriparse_text.specs.Cuts.{after, before}
use Rattle.uriparse_text.specs.Pairs.{Pair, is_among_names, pair_of, pairs, pairs_left, stands_for}
use Rattle.uriparse_text.specs.declared.query.ahead.Ahead.{Ahead}
use Rattle.uriparse_text.specs.Ahead.{Knows, marked, name_of}
use Rattle.uriparse_text.proofs.lemmas.readings.PairLemmas.{first_pair}

-- the first names are those of the pairs that precede what is left of the query
pub record Filling (q : List ℕ) (rest : Option (List ℕ)) (at : ℕ) (names : List (Bor (List ℕ))) : Type 0 where
  pub size : length names ≡ 64
  pub same : map (λ s. s.now) (take at names) ++ map name_of (pairs_left rest) ≡ map name_of (pairs q)

-- the answers are those by the names that precede what is left of them
pub record Marking (names : List ℕ) (rest : Option (List ℕ)) (firsts : List (Bor (List ℕ))) (answers : List Bool) : Type 0 where
  pub size : length answers ≡ 64
  pub seen : List Pair
  pub split : pairs names ≡ seen ++ pairs_left rest
  pub marks : take (length firsts) answers ≡ map (λ s. list_any (λ n. stands_for n.0 s.now) seen) firsts

first_left : (o : Option (List ℕ)) (left piece : List ℕ) (rest : Option (List ℕ)) → o ≡ Some left → piece ≡ before ampersand left → rest ≡ after ampersand left
    → pairs_left o ≡ pair_of piece ∷ pairs_left rest
first_left o left piece rest some cut cutting =
    ap pairs_left some ∙ first_pair left ∙ ap (λ t. pair_of t ∷ pairs_left (after ampersand left)) (sym cut) ∙ ap (λ r. pair_of piece ∷ pairs_left r) (sym cutting)

-- ---- the first names

pub filling_next : (q : List ℕ) (o : Option (List ℕ)) (left piece : List ℕ) (rest : Option (List ℕ)) (at : ℕ) (names : List (Bor (List ℕ))) (name : Bor (List ℕ))
    → Filling q o at names → o ≡ Some left → piece ≡ before ampersand left → rest ≡ after ampersand left → name.now ≡ before equals_sign piece → at < 64
    → Filling q rest (at + 1) (set names at name)
filling_next q o left piece rest at names name f some cut cutting is few =
    let room : at < length names = omega (arith, few, f.size) in
    record {
      size = length-set names at name ∙ f.size;
      same = ap (λ l. map (λ s. s.now) l ++ map name_of (pairs_left rest)) (take_more_set names at name room)
          ∙ ap (λ l. l ++ map name_of (pairs_left rest)) (map-append (λ s. s.now) (take at names) (name ∷ []))
          ∙ append_assoc (map (λ s. s.now) (take at names)) (name.now ∷ []) (map name_of (pairs_left rest))
          ∙ ap (λ s. map (λ s. s.now) (take at names) ++ s ∷ map name_of (pairs_left rest)) is
          ∙ ap (λ ps. map (λ s. s.now) (take at names) ++ map name_of ps) (sym (first_left o left piece rest some cut cutting)) ∙ f.same;
    }

pub filling_last : (q : List ℕ) (o : Option (List ℕ)) (at : ℕ) (names : List (Bor (List ℕ))) → Filling q o at names → at ≤ 64
    → map (λ s. s.now) (take at names) ≡ map name_of (take at (pairs q))
filling_last q o at names f few =
    let size : length (map (λ s. s.now) (take at names)) ≡ at =
    length-map (take at names) (λ s. s.now) ∙ length-take-le at names (omega (arith, few, f.size)) in
    sym (take_at (map (λ s. s.now) (take at names)) (map name_of (pairs_left o)) at size) ∙ ap (take at) f.same ∙ take-map name_of at (pairs q)

pub filling_some : (q : List ℕ) (o : Option (List ℕ)) (at : ℕ) (names : List (Bor (List ℕ))) → Filling q o at names → o ≡ None → 0 < at
filling_some q o zero names f none =
    let same : length {A = List ℕ} [] ≡ length (map name_of (pairs q)) = ap (λ r. length (map name_of (pairs_left r))) (sym none) ∙ ap length f.same in
    let some = ap (λ ps. length (map name_of ps)) (first_pair q) in
    absurd (omega (arith, same, some))
filling_some q o (suc at) names f none = omega arith

-- ---- the answers at one pattern

marked_next : (pattern : List ℕ) (names : List (Bor (List ℕ))) (answers : List Bool) (at : ℕ) (d : Bor (List ℕ)) (e b : Bool) → at < length names → at < length answers
    → b ≡ get_or answers at e || stands_for pattern (get_or names at d).now
    → take (at + 1) (set answers at b) ++ marked pattern (map (λ s. s.now) (drop (at + 1) names)) (drop (at + 1) (set answers at b))
    ≡ take at answers ++ marked pattern (map (λ s. s.now) (drop at names)) (drop at answers)
marked_next pattern names answers at d e b few room is =
    ap (λ l. l ++ marked pattern (map (λ s. s.now) (drop (at + 1) names)) (drop (at + 1) (set answers at b))) (take_more_set answers at b room)
    ∙ append_assoc (take at answers) (b ∷ []) (marked pattern (map (λ s. s.now) (drop (at + 1) names)) (drop (at + 1) (set answers at b)))
    ∙ ap (λ bs. take at answers ++ b ∷ marked pattern (map (λ s. s.now) (drop (at + 1) names)) bs) (drop-set-lt (at + 1) answers at b (omega arith))
    ∙ ap (λ v. take at answers ++ v ∷ marked pattern (map (λ s. s.now) (drop (at + 1) names)) (drop (at + 1) answers)) is
    ∙ ap (λ ns. take at answers ++ marked pattern (map (λ s. s.now) ns) (get_or answers at e ∷ drop (at + 1) answers)) (sym (drop_more names at d few))
    ∙ ap (λ bs. take at answers ++ marked pattern (map (λ s. s.now) (drop at names)) bs) (sym (drop_more answers at e room))

-- the same by what the test of an answer leaves
pub marked_set : (pattern : List ℕ) (names : List (Bor (List ℕ))) (answers new : List Bool) (at : ℕ) (d : Bor (List ℕ)) (b : Bool) → at < length names → at < length answers
    → get_or answers at false ≡ false → b ≡ stands_for pattern (get_or names at d).now → new ≡ set answers at b
    → take (at + 1) new ++ marked pattern (map (λ s. s.now) (drop (at + 1) names)) (drop (at + 1) new)
    ≡ take at answers ++ marked pattern (map (λ s. s.now) (drop at names)) (drop at answers)
marked_set pattern names answers new at d b few room fails by is =
    ap (λ l. take (at + 1) l ++ marked pattern (map (λ s. s.now) (drop (at + 1) names)) (drop (at + 1) l)) is
    ∙ marked_next pattern names answers at d false b few room (by ∙ ap (λ v. v || stands_for pattern (get_or names at d).now) (sym fails))

pub marked_kept : (pattern : List ℕ) (names : List (Bor (List ℕ))) (answers new : List Bool) (at : ℕ) (d : Bor (List ℕ)) → at < length names → at < length answers
    → get_or answers at false ≡ true → new ≡ answers
    → take (at + 1) new ++ marked pattern (map (λ s. s.now) (drop (at + 1) names)) (drop (at + 1) new)
    ≡ take at answers ++ marked pattern (map (λ s. s.now) (drop at names)) (drop at answers)
marked_kept pattern names answers new at d few room holds is =
    ap (λ l. take (at + 1) l ++ marked pattern (map (λ s. s.now) (drop (at + 1) names)) (drop (at + 1) l)) (is ∙ sym (set-get_or answers at false))
    ∙ marked_next pattern names answers at d false (get_or answers at false) few room
    (holds ∙ ap (λ v. v || stands_for pattern (get_or names at d).now) (sym holds))

length_marked : (pattern : List ℕ) (ss : List (List ℕ)) (bs : List Bool) → length (marked pattern ss bs) ≡ length bs
length_marked pattern [] bs = refl
length_marked pattern (s ∷ ss) [] = refl
length_marked pattern (s ∷ ss) (b ∷ bs) = ap (λ n. suc n) (length_marked pattern ss bs)

marked_by : (pattern : List ℕ) (f : Bor (List ℕ) → Bool) (ss : List (Bor (List ℕ))) (bs : List Bool) → take (length ss) bs ≡ map f ss
    → take (length ss) (marked pattern (map (λ s. s.now) ss) bs) ≡ map (λ s. f s || stands_for pattern s.now) ss
marked_by pattern f [] bs is = refl
marked_by pattern f (s ∷ ss) [] is = let none = ap length is in absurd (omega (arith, none))
marked_by pattern f (s ∷ ss) (b ∷ bs) is =
    ap (λ l. (b || stands_for pattern s.now) ∷ l) (marked_by pattern f ss bs (ap (drop 1) is))
    ∙ ap (λ v. (v || stands_for pattern s.now) ∷ map (λ s. f s || stands_for pattern s.now) ss) (ap (λ l. get_or l 0 false) is)

-- ---- the answers at all names

map_as : {X Y : Type 0} (f g : X → Y) → ((x : X) → f x ≡ g x) → (xs : List X) → map f xs ≡ map g xs
map_as f g same [] = refl
map_as f g same (x ∷ xs) = ap (λ l. f x ∷ l) (map_as f g same xs) ∙ ap (λ y. y ∷ map g xs) (same x)

map_twice : {X Y Z : Type 0} (g : Y → Z) (f : X → Y) (xs : List X) → map g (map f xs) ≡ map (λ x. g (f x)) xs
map_twice g f [] = refl
map_twice g f (x ∷ xs) = ap (λ l. g (f x) ∷ l) (map_twice g f xs)

or_false : (b : Bool) → b || false ≡ b
or_false true = refl
or_false false = refl

pub marking_first : (names : List ℕ) (firsts : List (Bor (List ℕ))) (answers : List Bool) → length answers ≡ 64 → take (length firsts) answers ≡ map (λ s. false) firsts
    → Marking names (Some names) firsts answers
marking_first names firsts answers size none = record { size = size; seen = []; split = refl; marks = none }

pub marking_next : (names : List ℕ) (o : Option (List ℕ)) (left piece : List ℕ) (rest : Option (List ℕ)) (pattern : List ℕ) (firsts : List (Bor (List ℕ))) (answers new : List Bool)
    → Marking names o firsts answers → o ≡ Some left → piece ≡ before ampersand left → rest ≡ after ampersand left → pattern ≡ before equals_sign piece
    → new ≡ marked pattern (map (λ s. s.now) firsts) answers → Marking names rest firsts new
marking_next names o left piece rest pattern firsts answers new m some cut cutting by is = record {
  size = ap length is ∙ length_marked pattern (map (λ s. s.now) firsts) answers ∙ m.size;
  seen = m.seen ++ pair_of piece ∷ [];
  split = m.split ∙ ap (λ ps. m.seen ++ ps) (first_left o left piece rest some cut cutting) ∙ sym (append_assoc m.seen (pair_of piece ∷ []) (pairs_left rest));
  marks = ap (take (length firsts)) is ∙ marked_by pattern (λ s. list_any (λ n. stands_for n.0 s.now) m.seen) firsts answers m.marks
      ∙ map_as (λ s. list_any (λ n. stands_for n.0 s.now) m.seen || stands_for pattern s.now) (λ s. list_any (λ n. stands_for n.0 s.now) (m.seen ++ pair_of piece ∷ [])) one firsts;
}
  where
    one : (s : Bor (List ℕ)) → list_any (λ n. stands_for n.0 s.now) m.seen || stands_for pattern s.now ≡ list_any (λ n. stands_for n.0 s.now) (m.seen ++ pair_of piece ∷ [])
    one s =
        ap (λ t. list_any (λ n. stands_for n.0 s.now) m.seen || stands_for t s.now) by
        ∙ ap (λ v. list_any (λ n. stands_for n.0 s.now) m.seen || v) (sym (or_false (stands_for (before equals_sign piece) s.now)))
        ∙ sym (list_any-append (λ n. stands_for n.0 s.now) m.seen (pair_of piece ∷ []))

-- all answers are false at first
pub marking_none : {X : Type 0} (firsts : List X) → length firsts ≤ 64 → take (length firsts) (replicate 64 false) ≡ map (λ s. false) firsts
marking_none firsts few = from firsts 64 few
  where
    from : {X : Type 0} (xs : List X) (n : ℕ) → length xs ≤ n → take (length xs) (replicate n false) ≡ map (λ s. false) xs
    from [] n h = refl
    from (x ∷ xs) zero h = absurd (omega (arith, h))
    from (x ∷ xs) (suc n) h = ap (λ l. false ∷ l) (from xs n (omega (arith, h)))

pub marking_last : (names : List ℕ) (o : Option (List ℕ)) (firsts : List (Bor (List ℕ))) (answers : List Bool) → Marking names o firsts answers → o ≡ None
    → take (length firsts) answers ≡ map (λ s. list_any (λ n. stands_for n.0 s.now) (pairs names)) firsts
marking_last names o firsts answers m none =
    let whole : pairs names ≡ m.seen = m.split ∙ ap (λ r. m.seen ++ pairs_left r) none ∙ append-nil m.seen in
    m.marks ∙ ap (λ ps. map (λ s. list_any (λ n. stands_for n.0 s.now) ps) firsts) (sym whole)

-- ---- what is known of the next pairs

pub known_first : (names query : List ℕ) (firsts : List (Bor (List ℕ))) (answers : List Bool) (count : ℕ) → count ≤ 64 → length firsts ≡ 64 → length answers ≡ 64
    → map (λ s. s.now) (take count firsts) ≡ map name_of (take count (pairs query))
    → take (length (take count firsts)) answers ≡ map (λ s. list_any (λ n. stands_for n.0 s.now) (pairs names)) (take count firsts)
    → Knows (is_among_names (pairs names)) (record { answers = answers; at = 0; end = count }) (pairs query)
known_first names query firsts answers count few room size cut marks =
    let less : count - 0 ≡ count = omega arith in
    let all : length (take count firsts) ≡ count = length-take-le count firsts (omega (arith, few, room)) in
    record {
      size = size;
      most = few;
      answers = ap (λ n. take n answers) (less ∙ sym all) ∙ marks
          ∙ sym (map_twice (λ s. list_any (λ n. stands_for n.0 s) (pairs names)) (λ s. s.now) (take count firsts))
          ∙ ap (map (λ s. list_any (λ n. stands_for n.0 s) (pairs names))) cut
          ∙ map_twice (λ s. list_any (λ n. stands_for n.0 s) (pairs names)) name_of (take count (pairs query))
          ∙ sym (take-map (is_among_names (pairs names)) count (pairs query)) ∙ ap (λ n. take n (map (is_among_names (pairs names)) (pairs query))) (sym less);
    }

known_next : (is : Pair → Bool) (a : Ahead) (p : Pair) (ps : List Pair) (d : Bool) → Knows is a (p ∷ ps) → a.at < a.end
    → (get_or a.answers a.at d ≡ is p) × Knows is (record a { at = a.at + 1 }) ps
known_next is a p ps d k some =
    let room : a.at < length a.answers = omega (arith, some, k.most, k.size) in
    let one : a.end - a.at ≡ suc (a.end - (a.at + 1)) = omega (arith, some) in
    let both : get_or a.answers a.at d ∷ take (a.end - (a.at + 1)) (drop (a.at + 1) a.answers) ≡ is p ∷ take (a.end - (a.at + 1)) (map is ps) =
    ap (λ l. take (suc (a.end - (a.at + 1))) l) (sym (drop_more a.answers a.at d room)) ∙ ap (λ n. take n (drop a.at a.answers)) (sym one) ∙ k.answers
    ∙ ap (λ n. take n (map is (p ∷ ps))) one in
    (ap (λ l. get_or l 0 false) both, record { size = k.size; most = k.most; answers = ap (drop 1) both })

pub known_left : (is : Pair → Bool) (a : Ahead) (left : List ℕ) (d : Bool) → Knows is a (pairs left) × (a.at < a.end)
    → (get_or a.answers a.at d ≡ is (pair_of (before ampersand left))) × Knows is (record a { at = a.at + 1 }) (pairs_left (after ampersand left))
known_left is a left d k =
    known_next is a (pair_of (before ampersand left)) (pairs_left (after ampersand left)) d (subst (Knows is a) (first_pair left) k.0) k.1

pub known_none : (is : Pair → Bool) (a : Ahead) (ps qs : List Pair) → Knows is a ps → Knows is (record a { end = 0 }) qs
known_none is a ps qs k =
    let none : 0 - a.at ≡ 0 = omega arith in
    record { size = k.size; most = omega arith; answers = ap (λ n. take n (drop a.at a.answers)) none ∙ sym (ap (λ n. take n (map is qs)) none) }

-- the same by what the cut of a loop leaves
pub known_at : (is : Pair → Bool) (a : Ahead) (o : Option (List ℕ)) (left : List ℕ) → Knows is a (pairs_left o) → o ≡ Some left → Knows is a (pairs left)
known_at is a o left k some = subst (λ r. Knows is a (pairs_left r)) some k

pub known_after : (is : Pair → Bool) (a : Ahead) (left : List ℕ) (rest : Option (List ℕ)) → Knows is a (pairs_left (after ampersand left)) → rest ≡ after ampersand left
    → Knows is a (pairs_left rest)
known_after is a left rest k cutting = subst (λ r. Knows is a (pairs_left r)) (sym cutting) k
