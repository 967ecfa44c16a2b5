-- Edits, the words that name them, and what they make of a reference.
use Rattle.std.proofs.Common.{◌≡◌, ◌⊎◌, suc, inl, inr, ℕ, ◌+◌, ◌-◌, ◌<◌, ◌≤◌, Bool, true, false, List, [], ◌∷◌, ◌++◌, drop, length, map, take, Option, Some, None, Result, Ok, Err, refl, sym, ap, subst, ◌∙◌, arith, append-nil, append_assoc}
use Rattle.std.specs.Prelude.{◌==◌, ◌&&◌, ◌||◌, Vec, MatchOption, get_or, is_some, not, slice_get, slice_index_or}
use Rattle.std.specs.Borrow.{Bor}
use Rattle.std.specs.List.{filter, join_with_byte, list_all, onto_first, slice_split}
use Rattle.std.specs.Option.{option_and_then, option_map}
use Rattle.std.specs.Result.{IsErrAnd, result_ok}
use Rattle.std.specs.declared.alloc.Global.{Global}
use Rattle.std.proofs.lemmas.Bool.{and_from, and_parts, false≢true}
use Rattle.std.proofs.lemmas.List.Concat.{flat_map-append}
use Rattle.std.proofs.lemmas.Option.{get_or_from_slice_get, slice_get_within}
use Rattle.std.proofs.Math.Seq.{take-suc}
use Rattle.std.proofs.lemmas.List.{drop-drop, drop_all, drop_more, length-drop, map-append, take-append-drop, take_all}
use Rattle.std.proofs.lemmas.List.Folds.{list_any-append}
use Rattle.std.proofs.lemmas.List.Splits.{slice_split-cons_yes, slice_split-cons_no}
use Rattle.uriparse_text.specs.Bytes.{ampersand}
use Rattle.uriparse_text.specs.Cuts.{lacks}
use Rattle.uriparse_text.specs.Faults.{fault}
use Rattle.uriparse_text.specs.Pairs.{Pair, is_among_names, is_ampersand, pair_of, pairs, pairs_left, piece_of, stands_for, without_names}
use Rattle.uriparse_text.specs.Query as query
use Rattle.uriparse_text.specs.Query.{IsQuery}
use Rattle.uriparse_text.specs.declared.internal.class.Class.TheVariants.{Query}
use Rattle.uriparse_text.proofs.lemmas.classes.FaultLemmas.{no_fault}
use Rattle.uriparse_text.proofs.lemmas.readings.NamedLemmas.{pairs_both}
use Rattle.uriparse_text.proofs.lemmas.readings.PairLemmas.{ampersand_plain, in_both, in_join, piece_back, split_joined}
use Rattle.uriparse.specs.PairEdits.{pairs_of, query_of, with_pairs}
use Rattle.uriparse.specs.PathError.TheVariants.{OutOfMemory}
use Rattle.uriparse.specs.Reference.{Parts, Spells, print}
use Rattle.uriparse.specs.URIReferenceError.{URIReferenceError}
use Rattle.uriparse.specs.URIReferenceError.TheVariants as references
use Rattle.uri_commands.specs.Edits.{AppendPair, DropPair, DropsPairs, Edit, Normalize, Reads, ReadsNames, ReadsNone, Remove, Set, SetPair, SortPairs, act_made, all_made, are_readable, byte_in_name, edit_of, edits_of, is_readable, made, name_text, pair_edit, plain_edit, set_to, steps_made, then_or, value_of, valued_edit, without_pairs}
use Rattle.uri_commands.specs.Output.{Does, Edited, Edits, EditsLine, EndsWork, NamesNone, OnEdits, ReadsChanges, ReadsEdits, Rejected, Unknown, Writes, answer_of, line}
use Rattle.uri_commands.specs.declared.edit.Change.{Change}
use Rattle.uri_commands.specs.declared.edit.Change.TheVariants as kinds
use Rattle.uri_commands.specs.declared.edit.Step.{Step}
use Rattle.uri_commands.specs.declared.edit.Value.{Value}
use Rattle.uri_commands.specs.declared.failure.Failure.{Failure}
use Rattle.uri_commands.specs.declared.failure.Failure.TheVariants as failures
use Rattle.uri_commands.proofs.OutputLemmas.{Done, Known, answered, of_reference}

-- the bytes of words
abbrev pub bytes : List (Bor (List ℕ)) → List (List ℕ)
bytes words = map (λ w. w.now) words

-- ---- the first edit of words

pub first_of_one : (w : List ℕ) (ws : List (List ℕ)) (e : Edit) → plain_edit w ≡ Some e
    → edits_of (w ∷ ws) ≡ option_map (λ es. e ∷ es) (edits_of ws)
first_of_one w [] e is = ap (λ o. then_or o (Some []) None) is
first_of_one w (u ∷ []) e is = ap (λ o. then_or o (edits_of (u ∷ [])) (then_or (valued_edit w u) (Some []) None)) is
first_of_one w (u ∷ v ∷ ws) e is =
    ap (λ o. then_or o (edits_of (u ∷ v ∷ ws))
    (then_or (valued_edit w u) (edits_of (v ∷ ws)) (then_or (pair_edit w u v) (edits_of ws) None))) is

-- nor is it an edit of one word
not_one : (w u v : List ℕ) (ws : List (List ℕ)) → plain_edit w ≡ None
    → edits_of (w ∷ u ∷ v ∷ ws) ≡ then_or (valued_edit w u) (edits_of (v ∷ ws)) (then_or (pair_edit w u v) (edits_of ws) None)
not_one w u v ws none =
    ap (λ o. then_or o (edits_of (u ∷ v ∷ ws))
    (then_or (valued_edit w u) (edits_of (v ∷ ws)) (then_or (pair_edit w u v) (edits_of ws) None))) none

pub first_of_two : (w u : List ℕ) (ws : List (List ℕ)) (e : Edit) → plain_edit w ≡ None → valued_edit w u ≡ Some e
    → edits_of (w ∷ u ∷ ws) ≡ option_map (λ es. e ∷ es) (edits_of ws)
first_of_two w u [] e none is =
    ap (λ o. then_or o (edits_of (u ∷ [])) (then_or (valued_edit w u) (Some []) None)) none ∙ ap (λ o. then_or o (Some []) None) is
first_of_two w u (v ∷ ws) e none is =
    not_one w u v ws none ∙ ap (λ o. then_or o (edits_of (v ∷ ws)) (then_or (pair_edit w u v) (edits_of ws) None)) is

pub first_of_three : (w u v : List ℕ) (ws : List (List ℕ)) (e : Edit) → plain_edit w ≡ None → valued_edit w u ≡ None
    → pair_edit w u v ≡ Some e
    → edits_of (w ∷ u ∷ v ∷ ws) ≡ option_map (λ es. e ∷ es) (edits_of ws)
first_of_three w u v ws e none nor is =
    not_one w u v ws none ∙ ap (λ o. then_or o (edits_of (v ∷ ws)) (then_or (pair_edit w u v) (edits_of ws) None)) nor
    ∙ ap (λ o. then_or o (edits_of ws) None) is

pub none_of_one : (w : List ℕ) → plain_edit w ≡ None → edits_of (w ∷ []) ≡ None
none_of_one w none = ap (λ o. then_or o (Some []) None) none

pub none_of_two : (w u : List ℕ) → plain_edit w ≡ None → valued_edit w u ≡ None → edits_of (w ∷ u ∷ []) ≡ None
none_of_two w u none nor =
    ap (λ o. then_or o (edits_of (u ∷ [])) (then_or (valued_edit w u) (Some []) None)) none ∙ ap (λ o. then_or o (Some []) None) nor

pub none_of_three : (w u v : List ℕ) (ws : List (List ℕ)) → plain_edit w ≡ None → valued_edit w u ≡ None → pair_edit w u v ≡ None
    → edits_of (w ∷ u ∷ v ∷ ws) ≡ None
none_of_three w u v ws none nor never =
    not_one w u v ws none ∙ ap (λ o. then_or o (edits_of (v ∷ ws)) (then_or (pair_edit w u v) (edits_of ws) None)) nor
    ∙ ap (λ o. then_or o (edits_of ws) None) never

-- the words from a place on, as a slice has them
abbrev from : {A : Type 0} → ℕ → List A → List A
from at xs = take (length xs - at) (drop at xs)

from_is : {A : Type 0} (at : ℕ) (xs : List A) → from at xs ≡ drop at xs
from_is at xs = take_all (length xs - at) (drop at xs) (omega (arith, length-drop at xs))

third_of : (w : Bor (List ℕ)) (ws : List (Bor (List ℕ))) (d f : Bor (List ℕ)) (x : Edit) → 1 ≤ length ws → 1 ≤ length (drop 1 ws)
    → plain_edit w.now ≡ None → valued_edit w.now (slice_index_or ws 0 d).now ≡ None
    → pair_edit w.now (slice_index_or ws 0 d).now (slice_index_or (drop 1 ws) 0 f).now ≡ Some x
    → edits_of (w.now ∷ bytes ws) ≡ option_map (λ es. x ∷ es) (edits_of (bytes (drop 2 ws)))
third_of w [] d f x long longer none nor is = absurd (omega arith)
third_of w (u ∷ []) d f x long longer none nor is = absurd (omega arith)
third_of w (u ∷ v ∷ ws) d f x long longer none nor is = first_of_three w.now u.now v.now (bytes ws) x none nor is

pub third_edit : (words values more : List (Bor (List ℕ))) (c d f : Bor (List ℕ)) (x : Edit) → values ≡ from 1 words → more ≡ from 1 values
    → 1 ≤ length words → 1 ≤ length values → 1 ≤ length more → plain_edit (slice_index_or words 0 c).now ≡ None
    → valued_edit (slice_index_or words 0 c).now (slice_index_or values 0 d).now ≡ None
    → pair_edit (slice_index_or words 0 c).now (slice_index_or values 0 d).now (slice_index_or more 0 f).now ≡ Some x
    → edits_of (bytes words) ≡ option_map (λ es. x ∷ es) (edits_of (bytes (drop 3 words)))
third_edit [] values more c d f x later last long longer longest none nor is = absurd (omega arith)
third_edit (w ∷ ws) values more c d f x later last long longer longest none nor is =
    let v : values ≡ ws = later ∙ from_is 1 (w ∷ ws) in
    let m : more ≡ drop 1 ws = last ∙ from_is 1 values ∙ ap (drop 1) v in
    third_of w ws d f x (subst (λ l. 1 ≤ length l) v longer) (subst (λ l. 1 ≤ length l) m longest) none
    (subst (λ l. valued_edit w.now (slice_index_or l 0 d).now ≡ None) v nor)
    (subst (λ l. pair_edit w.now (slice_index_or ws 0 d).now (slice_index_or l 0 f).now ≡ Some x) m
    (subst (λ l. pair_edit w.now (slice_index_or l 0 d).now (slice_index_or more 0 f).now ≡ Some x) v is))

-- ---- the edits of words, from the left

pub changes_start : (o : Option (List Edit)) (done : List Change) → done ≡ [] → o ≡ option_map (λ es. map edit_of done ++ es) o
changes_start None done none = refl
changes_start (Some es) done none = ap (λ l. Some (map edit_of l ++ es)) (sym none)

put_together : (o : Option (List Edit)) (done more : List Change) (c : Change) → more ≡ done ++ c ∷ []
    → option_map (λ es. map edit_of done ++ es) (option_map (λ es. edit_of c ∷ es) o) ≡ option_map (λ es. map edit_of more ++ es) o
put_together None done more c is = refl
put_together (Some es) done more c is =
    ap (λ l. Some l)
    (sym (append_assoc (map edit_of done) (edit_of c ∷ []) es)
    ∙ ap (λ l. l ++ es) (sym (map-append edit_of done (c ∷ [])) ∙ ap (map edit_of) (sym is)))

pub changes_next : (all rest left : List (List ℕ)) (done more : List Change) (c : Change)
    → edits_of all ≡ option_map (λ es. map edit_of done ++ es) (edits_of rest)
    → edits_of rest ≡ option_map (λ es. edit_of c ∷ es) (edits_of left) → more ≡ done ++ c ∷ []
    → edits_of all ≡ option_map (λ es. map edit_of more ++ es) (edits_of left)
changes_next all rest left done more c before now is =
    before ∙ ap (option_map (λ es. map edit_of done ++ es)) now ∙ put_together (edits_of left) done more c is

pub changes_end : (all rest : List (List ℕ)) (done : List Change) → edits_of all ≡ option_map (λ es. map edit_of done ++ es) (edits_of rest)
    → rest ≡ []
    → edits_of all ≡ Some (map edit_of done)
changes_end all rest done before none =
    before ∙ ap (λ l. option_map (λ es. map edit_of done ++ es) (edits_of l)) none ∙ ap (λ l. Some l) (append-nil (map edit_of done))

pub changes_none : (all rest : List (List ℕ)) (done : List Change)
    → edits_of all ≡ option_map (λ es. map edit_of done ++ es) (edits_of rest) → edits_of rest ≡ None
    → edits_of all ≡ None
changes_none all rest done before none = before ∙ ap (option_map (λ es. map edit_of done ++ es)) none

pub words_next : (words : List (Bor (List ℕ))) (at count : ℕ) (done more : List Change) (c : Change)
    → edits_of (bytes words) ≡ option_map (λ es. map edit_of done ++ es) (edits_of (bytes (drop at words)))
    → edits_of (bytes (from at words)) ≡ option_map (λ es. edit_of c ∷ es) (edits_of (bytes (drop count (from at words))))
    → more ≡ done ++ c ∷ []
    → edits_of (bytes words) ≡ option_map (λ es. map edit_of more ++ es) (edits_of (bytes (drop (at + count) words)))
words_next words at count done more c before now is =
    let e = from_is at words in
    changes_next (bytes words) (bytes (drop at words)) (bytes (drop (at + count) words)) done more c before
    (ap (λ l. edits_of (bytes l)) (sym e) ∙ now
    ∙ ap (λ l. option_map (λ es. edit_of c ∷ es) (edits_of (bytes l))) (ap (drop count) e ∙ drop-drop count at words)) is

pub words_within : (words : List (Bor (List ℕ))) (at count : ℕ) → at ≤ length words → count ≤ length (from at words)
    → at + count ≤ length words
words_within words at count low fits = omega (arith, ap length (from_is at words), length-drop at words)

pub words_none : (words : List (Bor (List ℕ))) (at : ℕ) (done : List Change)
    → edits_of (bytes words) ≡ option_map (λ es. map edit_of done ++ es) (edits_of (bytes (drop at words))) → at < length words
    → (0 < length (from at words) → edits_of (bytes (from at words)) ≡ None) → edits_of (bytes words) ≡ None
words_none words at done before low none =
    let e = from_is at words in
    let some : 0 < length (from at words) = omega (arith, ap length e, length-drop at words) in
    changes_none (bytes words) (bytes (drop at words)) done before (ap (λ l. edits_of (bytes l)) (sym e) ∙ none some)

-- ---- pairs that are left out

onto_first_lacks : (b : ℕ) (ss : List (List ℕ)) → not (b == ampersand) ≡ true → list_all (lacks ampersand) ss ≡ true
    → list_all (lacks ampersand) (onto_first b ss) ≡ true
onto_first_lacks b [] other each = and_from _ _ (and_from _ _ other refl) refl
onto_first_lacks b (s ∷ ss) other each =
    let both = and_parts (lacks ampersand s) (list_all (lacks ampersand) ss) each in
    and_from _ _ (and_from _ _ other both.0) both.1

pieces_lack : (q : List ℕ) → list_all (lacks ampersand) (slice_split is_ampersand q) ≡ true
pieces_lack [] = refl
pieces_lack (b ∷ q) = by_test (is_ampersand b) refl (pieces_lack q)
  where
    by_test : (v : Bool) → is_ampersand b ≡ v → list_all (lacks ampersand) (slice_split is_ampersand q) ≡ true
        → list_all (lacks ampersand) (slice_split is_ampersand (b ∷ q)) ≡ true
    by_test true e h = ap (list_all (lacks ampersand)) (slice_split-cons_yes is_ampersand b q e) ∙ h
    by_test false e h =
        ap (list_all (lacks ampersand)) (slice_split-cons_no is_ampersand b q e)
        ∙ onto_first_lacks b (slice_split is_ampersand q) (ap not e) h

filter_pieces : (keeps : Pair → Bool) (ss : List (List ℕ))
    → filter keeps (map pair_of ss) ≡ map pair_of (filter (λ s. keeps (pair_of s)) ss)
filter_pieces keeps [] = refl
filter_pieces keeps (s ∷ ss) = by_test (keeps (pair_of s)) refl (filter_pieces keeps ss)
  where
    by_test : (v : Bool) → keeps (pair_of s) ≡ v → filter keeps (map pair_of ss) ≡ map pair_of (filter (λ s. keeps (pair_of s)) ss)
        → filter keeps (map pair_of (s ∷ ss)) ≡ map pair_of (filter (λ s. keeps (pair_of s)) (s ∷ ss))
    by_test true e h = rw e (ap (λ l. pair_of s ∷ l) h)
    by_test false e h = rw e h

filter_lacks : (keeps : List ℕ → Bool) (ss : List (List ℕ)) → list_all (lacks ampersand) ss ≡ true
    → list_all (lacks ampersand) (filter keeps ss) ≡ true
filter_lacks keeps [] each = refl
filter_lacks keeps (s ∷ ss) each =
    let both = and_parts (lacks ampersand s) (list_all (lacks ampersand) ss) each in
    by_test (keeps s) refl both.0 (filter_lacks keeps ss both.1)
  where
    by_test : (v : Bool) → keeps s ≡ v → lacks ampersand s ≡ true → list_all (lacks ampersand) (filter keeps ss) ≡ true
        → list_all (lacks ampersand) (filter keeps (s ∷ ss)) ≡ true
    by_test true e first h = rw e (and_from _ _ first h)
    by_test false e first h = rw e h

pieces_back : (ss : List (List ℕ)) → map piece_of (map pair_of ss) ≡ ss
pieces_back [] = refl
pieces_back (s ∷ ss) = rw (piece_back s, pieces_back ss) refl

joined_back : (ss : List (List ℕ)) → list_all (lacks ampersand) ss ≡ true → pairs_left (query_of (map pair_of ss)) ≡ map pair_of ss
joined_back [] each = refl
joined_back (s ∷ ss) each =
    let both = and_parts (lacks ampersand s) (list_all (lacks ampersand) ss) each in
    ap (λ l. pairs (join_with_byte ampersand l)) (pieces_back (s ∷ ss)) ∙ ap (map pair_of) (split_joined ampersand refl s ss both.0 both.1)

pieces_kept : (keeps : Pair → Bool) (q : List ℕ) → pairs_left (query_of (filter keeps (pairs q))) ≡ filter keeps (pairs q)
pieces_kept keeps q =
    let kept = filter (λ s. keeps (pair_of s)) (slice_split is_ampersand q) in
    let is : filter keeps (pairs q) ≡ map pair_of kept = filter_pieces keeps (slice_split is_ampersand q) in
    ap (λ ps. pairs_left (query_of ps)) is
    ∙ joined_back kept (filter_lacks (λ s. keeps (pair_of s)) (slice_split is_ampersand q) (pieces_lack q)) ∙ sym is

kept : (keeps : Pair → Bool) (o : Option (List ℕ)) → pairs_left (query_of (filter keeps (pairs_left o))) ≡ filter keeps (pairs_left o)
kept keeps None = refl
kept keeps (Some q) = pieces_kept keeps q

filter_both : (a b : List Pair) (ps : List Pair) → without_names b (without_names a ps) ≡ without_names (a ++ b) ps
filter_both a b [] = refl
filter_both a b (p ∷ ps) =
    by_test (is_among_names a p) refl (is_among_names b p) refl (list_any-append (λ n. stands_for n.0 p.0) a b) (filter_both a b ps)
  where
    by_test : (v : Bool) → is_among_names a p ≡ v → (w : Bool) → is_among_names b p ≡ w
        → is_among_names (a ++ b) p ≡ (is_among_names a p || is_among_names b p)
        → without_names b (without_names a ps) ≡ without_names (a ++ b) ps
        → without_names b (without_names a (p ∷ ps)) ≡ without_names (a ++ b) (p ∷ ps)
    by_test true e w g or h = rw (or, e) h
    by_test false e true g or h = rw (or, e, g) h
    by_test false e false g or h = rw (or, e, g) (ap (λ l. p ∷ l) h)

pub without_both : (a b : List ℕ) (p : Parts) → without_pairs b (without_pairs a p) ≡ without_pairs (a ++ ampersand ∷ b) p
without_both a b p =
    ap (with_pairs p)
    (ap (without_names (pairs b)) (kept (λ x. not (is_among_names (pairs a) x)) p.query)
    ∙ filter_both (pairs a) (pairs b) (pairs_of p)
    ∙ ap (λ ns. without_names ns (pairs_of p)) (sym (pairs_both a b)))

-- ---- names that are read

abbrev read : List ℕ → Option (List ℕ)
read t = result_ok (query.reading t)

-- a text is a query, or it is rejected
abbrev Readable : List ℕ → Type 0
Readable t = (IsQuery t × (read t ≡ Some t)) ⊎ ((IsQuery t → ⊥) × (read t ≡ None))

readable : (t : List ℕ) → Readable t
readable t = by_fault (fault Query t) refl
  where
    by_fault : (o : Option ℕ) → fault Query t ≡ o → Readable t
    by_fault None is = inl ((no_fault Query t).0 is, rw is refl)
    by_fault (Some b) is = inr ((λ h. let none = (no_fault Query t).1 h in let no : ⊥ = cc in no), rw is refl)

both_read : (t u : List ℕ) → (o r : Option (List ℕ)) → Readable t → Readable u → Readable (t ++ ampersand ∷ u)
    → ((read t ≡ Some t) × (read u ≡ Some u) × (read (t ++ ampersand ∷ u) ≡ Some (t ++ ampersand ∷ u)))
    ⊎ ((read (t ++ ampersand ∷ u) ≡ None) × ((read t ≡ None) ⊎ ((read t ≡ Some t) × (read u ≡ None))))
both_read t u o r (inl first) (inl second) (inl all) = inl (first.1, second.1, all.1)
both_read t u o r (inl first) (inl second) (inr none) = absurd (none.0 (in_join t u ampersand refl refl ampersand_plain first.0 second.0))
both_read t u o r (inl first) (inr second) (inl all) = absurd (second.0 (in_both Query ampersand refl refl t u all.0).1)
both_read t u o r (inl first) (inr second) (inr none) = inr (none.1, inr (first.1, second.1))
both_read t u o r (inr first) second (inl all) = absurd (first.0 (in_both Query ampersand refl refl t u all.0).0)
both_read t u o r (inr first) second (inr none) = inr (none.1, inl first.1)

abbrev made_of : List Edit → Parts → Option (List ℕ) → Option Parts
made_of es p names = option_and_then (λ q. all_made es (without_pairs q p)) names

one_name : (es : List Edit) (p : Parts) (o : Option (List ℕ))
    → option_and_then (all_made es) (option_map (λ q. without_pairs q p) o) ≡ made_of es p o
one_name es p None = refl
one_name es p (Some q) = refl

-- Edits drop-pair one after another leave out what the names leave out together.
pub dropped_made : (name : List ℕ) (names : List (List ℕ)) (es : List Edit) (p : Parts)
    → all_made (DropPair name ∷ (map DropPair names ++ es)) p
    ≡ made_of es p (read (join_with_byte ampersand (map name_text (name ∷ names))))
dropped_made name [] es p = one_name es p (read (name_text name))
dropped_made name (n ∷ ns) es p =
    by_reading (both_read t u None None (readable t) (readable u) (readable (t ++ ampersand ∷ u))) (dropped_made n ns es)
  where
    t : List ℕ
    t = name_text name

    u : List ℕ
    u = join_with_byte ampersand (map name_text (n ∷ ns))

    later : Parts → Option Parts
    later = all_made (DropPair n ∷ (map DropPair ns ++ es))

    by_reading : ((read t ≡ Some t) × (read u ≡ Some u) × (read (t ++ ampersand ∷ u) ≡ Some (t ++ ampersand ∷ u)))
        ⊎ ((read (t ++ ampersand ∷ u) ≡ None) × ((read t ≡ None) ⊎ ((read t ≡ Some t) × (read u ≡ None))))
        → ((q : Parts) → later q ≡ made_of es q (read u))
        → option_and_then later (option_map (λ q. without_pairs q p) (read t)) ≡ made_of es p (read (t ++ ampersand ∷ u))
    by_reading (inl all) h =
        ap (λ o. option_and_then later (option_map (λ q. without_pairs q p) o)) all.0
        ∙ h (without_pairs t p) ∙ ap (made_of es (without_pairs t p)) all.1
        ∙ ap (all_made es) (without_both t u p) ∙ ap (made_of es p) (sym all.2)
    by_reading (inr (whole, inl none)) h =
        ap (λ o. option_and_then later (option_map (λ q. without_pairs q p) o)) none ∙ ap (made_of es p) (sym whole)
    by_reading (inr (whole, inr one)) h =
        ap (λ o. option_and_then later (option_map (λ q. without_pairs q p) o)) one.0
        ∙ h (without_pairs t p) ∙ ap (made_of es (without_pairs t p)) one.1 ∙ ap (made_of es p) (sym whole)

dropped_of : (name : List ℕ) (changes : List Change) (text : List ℕ) (count : ℕ) → DropsPairs name changes text count → (p : Parts)
    → all_made (DropPair name ∷ map edit_of changes) p ≡ made_of (map edit_of (drop count changes)) p (read text)
dropped_of name changes text count d p =
    ap (λ es. all_made (DropPair name ∷ es) p) d.begin ∙ dropped_made name d.names (map edit_of (drop count changes)) p
    ∙ ap (λ t. made_of (map edit_of (drop count changes)) p (read t)) (sym d.text_is)

-- They are readable if the names are together.
dropped_readable : (name : List ℕ) (names : List (List ℕ)) (es : List Edit)
    → are_readable (DropPair name ∷ (map DropPair names ++ es))
    ≡ (is_some (read (join_with_byte ampersand (map name_text (name ∷ names)))) && are_readable es)
dropped_readable name [] es = refl
dropped_readable name (n ∷ ns) es =
    by_reading (both_read t u None None (readable t) (readable u) (readable (t ++ ampersand ∷ u))) (dropped_readable n ns es)
  where
    t : List ℕ
    t = name_text name

    u : List ℕ
    u = join_with_byte ampersand (map name_text (n ∷ ns))

    later : Bool
    later = are_readable (DropPair n ∷ (map DropPair ns ++ es))

    by_reading : ((read t ≡ Some t) × (read u ≡ Some u) × (read (t ++ ampersand ∷ u) ≡ Some (t ++ ampersand ∷ u)))
        ⊎ ((read (t ++ ampersand ∷ u) ≡ None) × ((read t ≡ None) ⊎ ((read t ≡ Some t) × (read u ≡ None))))
        → later ≡ (is_some (read u) && are_readable es)
        → (is_some (read t) && later) ≡ (is_some (read (t ++ ampersand ∷ u)) && are_readable es)
    by_reading (inl all) h =
        ap (λ o. is_some o && later) all.0 ∙ h ∙ ap (λ o. is_some o && are_readable es) all.1
        ∙ sym (ap (λ o. is_some o && are_readable es) all.2)
    by_reading (inr (whole, inl none)) h = ap (λ o. is_some o && later) none ∙ sym (ap (λ o. is_some o && are_readable es) whole)
    by_reading (inr (whole, inr one)) h =
        ap (λ o. is_some o && later) one.0 ∙ h ∙ ap (λ o. is_some o && are_readable es) one.1
        ∙ sym (ap (λ o. is_some o && are_readable es) whole)

readable_of : (name : List ℕ) (changes : List Change) (text : List ℕ) (count : ℕ) → DropsPairs name changes text count
    → are_readable (DropPair name ∷ map edit_of changes) ≡ (is_some (read text) && are_readable (map edit_of (drop count changes)))
readable_of name changes text count d =
    ap (λ es. are_readable (DropPair name ∷ es)) d.begin ∙ dropped_readable name d.names (map edit_of (drop count changes))
    ∙ ap (λ t. is_some (read t) && are_readable (map edit_of (drop count changes))) (sym d.text_is)

pub names_read : (name : List ℕ) (changes : List Change) (text now q : List ℕ) (count : ℕ) → DropsPairs name changes text count → now ≡ text
    → read now ≡ Some q
    → Reads (DropPair name) changes (λ p. Some (without_pairs q p)) count
names_read name changes text now q count d same is = record {
  within = d.within;
  readable =
      readable_of name changes text count d
      ∙ ap (λ o. is_some o && are_readable (map edit_of (drop count changes))) (ap read (sym same) ∙ is);
  makes =
      λ p. dropped_of name changes text count d p ∙ ap (λ t. made_of (map edit_of (drop count changes)) p (read t)) (sym same)
      ∙ ap (made_of (map edit_of (drop count changes)) p) is;
}

pub names_unread : (name : List ℕ) (changes : List Change) (text now : List ℕ) (count : ℕ) (x : URIReferenceError)
    → DropsPairs name changes text count → now ≡ text
    → (x ≡ references.Path OutOfMemory) ⊎ (read now ≡ None) → ReadsNone (DropPair name) changes x
names_unread name changes text now count x d same (inl memory) = inl memory
names_unread name changes text now count x d same (inr none) =
    inr (readable_of name changes text count d
    ∙ ap (λ o. is_some o && are_readable (map edit_of (drop count changes))) (ap read (sym same) ∙ none))

pub names_failed : (name : List ℕ) (changes : List Change) (text now : List ℕ) (count : ℕ) (x : URIReferenceError)
    (r : Result (List ℕ × ℕ) URIReferenceError)
    → DropsPairs name changes text count → now ≡ text → (x ≡ references.Path OutOfMemory) ⊎ (read now ≡ None) → r ≡ Err x
    → ReadsNames name changes r
names_failed name changes text now count x r d same wrong is =
    subst (ReadsNames name changes) (sym is) (names_unread name changes text now count x d same wrong)

-- ---- one more name

joined_more : (t u : List ℕ) (ts : List (List ℕ))
    → join_with_byte ampersand ((t ∷ ts) ++ u ∷ []) ≡ join_with_byte ampersand (t ∷ ts) ++ ampersand ∷ u
joined_more t u [] = refl
joined_more t u (s ∷ ts) =
    ap (λ l. t ++ ampersand ∷ l) (joined_more s u ts) ∙ sym (append_assoc t (ampersand ∷ join_with_byte ampersand (s ∷ ts)) (ampersand ∷ u))

left_from : {A : Type 0} (xs : List A) (i : ℕ) (x : A) → slice_get xs i ≡ Some x → drop i xs ≡ x ∷ drop (i + 1) xs
left_from xs i x is = drop_more xs i x (slice_get_within xs i x is) ∙ ap (λ y. y ∷ drop (i + 1) xs) (get_or_from_slice_get xs i x x is)

taken_more : {A : Type 0} (xs : List A) (i : ℕ) (x : A) → slice_get xs i ≡ Some x → take (i + 1) xs ≡ take i xs ++ x ∷ []
taken_more xs i x is =
    let next : i + 1 ≡ suc i = omega arith in
    ap (λ n. take n xs) next ∙ take-suc xs i x (slice_get_within xs i x is)
    ∙ ap (λ y. take i xs ++ y ∷ []) (get_or_from_slice_get xs i x x is)

pub drops_start : (name : List ℕ) (changes : List Change) (text : List ℕ) → text ≡ name_text name → DropsPairs name changes text 0
drops_start name changes text is = record { names = []; within = omega arith; begin = refl; text_is = is }

pub drops_next : (name : List ℕ) (changes : List Change) (text more : List ℕ) (next : Bor (List ℕ)) (count : ℕ)
    → DropsPairs name changes text count
    → slice_get changes count ≡ Some (kinds.DropPair next) → more ≡ (text ++ ampersand ∷ []) ++ name_text next.now
    → DropsPairs name changes more (count + 1)
drops_next name changes text more next count d is put =
    let bound : count < length changes = slice_get_within changes count (kinds.DropPair next) is in
    let left = map edit_of (drop (count + 1) changes) in
    let ends = map DropPair (next.now ∷ []) in
    record {
      names = d.names ++ next.now ∷ [];
      within = omega (arith, bound);
      begin =
          d.begin ∙ ap (λ l. map DropPair d.names ++ map edit_of l) (left_from changes count (kinds.DropPair next) is)
          ∙ sym (append_assoc (map DropPair d.names) ends left) ∙ ap (λ l. l ++ left) (sym (map-append DropPair d.names (next.now ∷ [])));
      text_is =
          put ∙ append_assoc text (ampersand ∷ []) (name_text next.now) ∙ ap (λ l. l ++ ampersand ∷ name_text next.now) d.text_is
          ∙ sym (joined_more (name_text name) (name_text next.now) (map name_text d.names))
          ∙ ap (λ l. join_with_byte ampersand (name_text name ∷ l)) (sym (map-append name_text d.names (next.now ∷ [])));
    }

pub name_next : (old now more : List ℕ) (name : List ℕ) (i : ℕ) (b : ℕ) → now ≡ old ++ name_text (take i name) → slice_get name i ≡ Some b
    → more ≡ now ++ byte_in_name b → more ≡ old ++ name_text (take (i + 1) name)
name_next old now more name i b before is put =
    put ∙ ap (λ l. l ++ byte_in_name b) before ∙ append_assoc old (name_text (take i name)) (byte_in_name b)
    ∙ ap (λ l. old ++ (name_text (take i name) ++ l)) (sym (append-nil (byte_in_name b)))
    ∙ ap (λ l. old ++ l) (sym (flat_map-append byte_in_name (take i name) (b ∷ [])))
    ∙ ap (λ l. old ++ name_text l) (sym (taken_more name i b is))

-- ---- steps

then_itself : (o : Option Parts) → option_and_then (λ p. Some p) o ≡ o
then_itself None = refl
then_itself (Some p) = refl

steps_more : (ss : List Step) (s : Step) (p : Parts) → steps_made (ss ++ s ∷ []) p ≡ option_and_then (act_made s.act) (steps_made ss p)
steps_more [] s p = by_act (act_made s.act p)
  where
    by_act : (o : Option Parts) → option_and_then (steps_made []) o ≡ o
    by_act None = refl
    by_act (Some q) = refl
steps_more (x ∷ ss) s p = by_act (act_made x.act p) (steps_more ss s)
  where
    by_act : (o : Option Parts) → ((q : Parts) → steps_made (ss ++ s ∷ []) q ≡ option_and_then (act_made s.act) (steps_made ss q))
        → option_and_then (steps_made (ss ++ s ∷ [])) o ≡ option_and_then (act_made s.act) (option_and_then (steps_made ss) o)
    by_act None h = refl
    by_act (Some q) h = h q

steps_both : (ss ts : List Step) (p : Parts) → steps_made (ss ++ ts) p ≡ option_and_then (steps_made ts) (steps_made ss p)
steps_both [] ts p = refl
steps_both (x ∷ ss) ts p = by_act (act_made x.act p) (steps_both ss ts)
  where
    by_act : (o : Option Parts) → ((q : Parts) → steps_made (ss ++ ts) q ≡ option_and_then (steps_made ts) (steps_made ss q))
        → option_and_then (steps_made (ss ++ ts)) o ≡ option_and_then (steps_made ts) (option_and_then (steps_made ss) o)
    by_act None h = refl
    by_act (Some q) h = h q

-- So many steps are made.
pub steps_next : (front more : List Step) (s : Step) (p q r : Parts) → steps_made front p ≡ Some q → more ≡ front ++ s ∷ []
    → act_made s.act q ≡ Some r
    → steps_made more p ≡ Some r
steps_next front more s p q r before is now =
    ap (λ l. steps_made l p) is ∙ steps_more front s p ∙ ap (option_and_then (act_made s.act)) before ∙ now

pub steps_stop : (A : Type 0) (ss : List Step) (i : ℕ) (s : Step) (p q : Parts) → steps_made (take i ss) p ≡ Some q
    → take (i + 1) ss ≡ take i ss ++ s ∷ []
    → A ⊎ (act_made s.act q ≡ None) → A ⊎ ((steps_made ss p ≡ None) × (Rejected ≡ Rejected))
steps_stop A ss i s p q before is (inl ends) = inl ends
steps_stop A ss i s p q before is (inr none) =
    let stopped : steps_made (take (i + 1) ss) p ≡ None =
    ap (λ l. steps_made l p) is ∙ steps_more (take i ss) s p ∙ ap (option_and_then (act_made s.act)) before ∙ none in
    inr (
      ap (λ l. steps_made l p) (sym (take-append-drop (i + 1) ss)) ∙ steps_both (take (i + 1) ss) (drop (i + 1) ss) p
          ∙ ap (option_and_then (steps_made (drop (i + 1) ss))) stopped,
      refl,
    )

-- These steps make what the first of these edits make.
abbrev pub StepsMake : List Edit → List Step → List Edit → Type 0
StepsMake all steps left = (p : Parts) → all_made all p ≡ option_and_then (all_made left) (steps_made steps p)

pub steps_start : (all : List Edit) (steps : List Step) → steps ≡ [] → StepsMake all steps all
steps_start all steps none = λ p. ap (λ l. option_and_then (all_made all) (steps_made l p)) (sym none)

pub steps_read : (all now : List Edit) (e : Edit) (others : List Change) (count : ℕ) (steps more : List Step) (s : Step)
    → StepsMake all steps now
    → now ≡ e ∷ map edit_of others → Reads e others (act_made s.act) count → more ≡ steps ++ s ∷ []
    → StepsMake all more (map edit_of (drop count others))
steps_read all now e others count steps more s before is reads put = λ p.
    before p ∙ ap (λ es. option_and_then (all_made es) (steps_made steps p)) is ∙ by_made p (steps_made steps p) reads.makes
    ∙ ap (option_and_then (all_made left)) (sym (ap (λ l. steps_made l p) put ∙ steps_more steps s p))
  where
    left : List Edit
    left = map edit_of (drop count others)

    by_made : (p : Parts) (o : Option Parts)
        → ((q : Parts) → all_made (e ∷ map edit_of others) q ≡ option_and_then (all_made left) (act_made s.act q))
        → option_and_then (all_made (e ∷ map edit_of others)) o ≡ option_and_then (all_made left) (option_and_then (act_made s.act) o)
    by_made p None h = refl
    by_made p (Some q) h = h q

pub steps_end : (all left : List Edit) (steps : List Step) → StepsMake all steps left → left ≡ [] → (p : Parts)
    → steps_made steps p ≡ all_made all p
steps_end all left steps makes none p =
    sym (makes p ∙ ap (λ es. option_and_then (all_made es) (steps_made steps p)) none ∙ then_itself (steps_made steps p))

-- the first of the changes that are left, and the others
first_left : (changes : List Change) (at : ℕ) (c d : Change) → at < length changes → c ≡ get_or changes at d
    → map edit_of (drop at changes) ≡ edit_of c ∷ map edit_of (from (at + 1) changes)
first_left changes at c d low is =
    ap (map edit_of) (drop_more changes at d low ∙ ap (λ x. x ∷ drop (at + 1) changes) (sym is))
    ∙ ap (λ l. edit_of c ∷ map edit_of l) (sym (from_is (at + 1) changes))

-- so many fewer are left
fewer_left : (changes : List Change) (at more : ℕ) → drop more (from (at + 1) changes) ≡ drop (at + (1 + more)) changes
fewer_left changes at more =
    let next : at + 1 + more ≡ at + (1 + more) = omega arith in
    ap (drop more) (from_is (at + 1) changes) ∙ drop-drop more (at + 1) changes ∙ ap (λ n. drop n changes) next

pub changes_next_read : (changes : List Change) (at more : ℕ) (c d : Change) (steps longer : List Step) (s : Step) → at < length changes
    → StepsMake (map edit_of changes) steps (map edit_of (drop at changes)) → c ≡ get_or changes at d
    → Reads (edit_of c) (from (at + 1) changes) (act_made s.act) more
    → longer ≡ steps ++ s ∷ [] → StepsMake (map edit_of changes) longer (map edit_of (drop (at + (1 + more)) changes))
changes_next_read changes at more c d steps longer s low before is reads put =
    subst (λ l. StepsMake (map edit_of changes) longer (map edit_of l)) (fewer_left changes at more)
    (steps_read (map edit_of changes) (map edit_of (drop at changes)) (edit_of c)
    (from (at + 1) changes) more steps longer s before (first_left changes at c d low is) reads put)

pub changes_next_readable : (changes : List Change) (at more : ℕ) (c d : Change) (effect : Parts → Option Parts) → at < length changes
    → are_readable (map edit_of changes) ≡ are_readable (map edit_of (drop at changes)) → c ≡ get_or changes at d
    → Reads (edit_of c) (from (at + 1) changes) effect more
    → are_readable (map edit_of changes) ≡ are_readable (map edit_of (drop (at + (1 + more)) changes))
changes_next_readable changes at more c d effect low before is reads =
    before ∙ ap are_readable (first_left changes at c d low is) ∙ reads.readable ∙ ap (λ l. are_readable (map edit_of l)) (fewer_left changes at more)

pub changes_within : (changes : List Change) (at more : ℕ) → at < length changes → more ≤ length (from (at + 1) changes)
    → at + (1 + more) ≤ length changes
changes_within changes at more low fits = omega (arith, ap length (from_is (at + 1) changes), length-drop (at + 1) changes)

pub changes_unread : (changes : List Change) (at : ℕ) (c d : Change) (x : URIReferenceError)
    (r : Result (Vec Step Global) Failure) → at < length changes
    → are_readable (map edit_of changes) ≡ are_readable (map edit_of (drop at changes)) → c ≡ get_or changes at d
    → ReadsNone (edit_of c) (from (at + 1) changes) x
    → IsErrAnd r (λ f. f ≡ failures.Reference x) → ReadsChanges (map edit_of changes) r
changes_unread changes at c d x (Ok ss) low before is none wrong = absurd wrong
changes_unread changes at c d x (Err f) low before is (inl memory) wrong = inl (subst EndsWork (sym wrong) memory)
changes_unread changes at c d x (Err f) low before is (inr none) wrong =
    inr (ap answer_of wrong, before ∙ ap are_readable (first_left changes at c d low is) ∙ none)

pub changes_read : (changes : List Change) (at : ℕ) (steps : List Step)
    → are_readable (map edit_of changes) ≡ are_readable (map edit_of (drop at changes))
    → StepsMake (map edit_of changes) steps (map edit_of (drop at changes)) → length changes ≤ at
    → (are_readable (map edit_of changes) ≡ true) × ((p : Parts) → steps_made steps p ≡ all_made (map edit_of changes) p)
changes_read changes at steps readable makes over =
    let none = ap (map edit_of) (drop_all at changes over) in
    (readable ∙ ap are_readable none, steps_end (map edit_of changes) (map edit_of (drop at changes)) steps makes none)

-- ---- edits whose values can't be read

unset : (v : Option Value) (p : Parts) → is_some v ≡ false → option_and_then (λ x. set_to x p) v ≡ None
unset None p none = refl
unset (Some x) p none = absurd (false≢true (sym none))

undropped : (q : Option (List ℕ)) (p : Parts) → is_some q ≡ false → option_map (λ names. without_pairs names p) q ≡ None
undropped None p none = refl
undropped (Some x) p none = absurd (false≢true (sym none))

unmade : (e : Edit) (p : Parts) → is_readable e ≡ false → made e p ≡ None
unmade (Set c t) p none = unset (value_of c t) p none
unmade (DropPair name) p none = undropped (read (name_text name)) p none
unmade (Remove d) p none = absurd (false≢true (sym none))
unmade (SetPair name value) p none = absurd (false≢true (sym none))
unmade (AppendPair name value) p none = absurd (false≢true (sym none))
unmade SortPairs p none = absurd (false≢true (sym none))
unmade Normalize p none = absurd (false≢true (sym none))

none_made : (es : List Edit) (o : Option Parts) → ((p : Parts) → all_made es p ≡ None) → option_and_then (all_made es) o ≡ None
none_made es None later = refl
none_made es (Some p) later = later p

-- Such edits are rejected whatever the reference is.
pub unreadable_made : (es : List Edit) → are_readable es ≡ false → (p : Parts) → all_made es p ≡ None
unreadable_made [] none p = absurd (false≢true (sym none))
unreadable_made (e ∷ es) none p = by_first (is_readable e) refl none (unreadable_made es)
  where
    by_first : (v : Bool) → is_readable e ≡ v → (v && are_readable es) ≡ false → (are_readable es ≡ false → (q : Parts) → all_made es q ≡ None)
        → all_made (e ∷ es) p ≡ None
    by_first true is others later = none_made es (made e p) (later others)
    by_first false is others later = ap (option_and_then (all_made es)) (unmade e p is)

-- ---- answers

pub edited : (o : Option Parts) (q : Parts) (a b : Known) (r : Done) → o ≡ Some q → Writes (line (print q)) a b r → Does (Edited o) a b r
edited o q a b r is written = subst (λ x. Does (Edited x) a b r) (sym is) (answered (Edited (Some q)) (line (print q)) a b r refl written)

pub not_edited : (o : Option Parts) (f : Failure) (a b : Known) (r : Done) → EndsWork f ⊎ ((o ≡ None) × (answer_of f ≡ Rejected))
    → r ≡ Err f → b ≡ a
    → Does (Edited o) a b r
not_edited o f a b r (inl ends) is kept = subst (Does (Edited o) a b) (sym is) (inl ends)
not_edited o f a b r (inr rejected) is kept =
    subst (Does (Edited o) a b) (sym is) (inr (subst (λ x. Edited x (answer_of f)) (sym rejected.0) rejected.1, kept))

pub edited_line : (t : List ℕ) (p : Parts) (make : Parts → Option Parts) (a b : Known) (r : Done) → Spells t p
    → Does (Edited (make p)) a b r
    → Does (EditsLine make t) a b r
edited_line t p make a b r spelled done = of_reference t p (λ x. Edited (make x)) a b r spelled done

pub edits_read : (t : List ℕ) (p q : Parts) (es : List Edit) (steps now : List Step) (a b : Known) (r : Done) → Spells t p
    → (are_readable es ≡ true) × ((x : Parts) → steps_made steps x ≡ all_made es x) → now ≡ steps → q ≡ p
    → Does (Edited (steps_made now q)) a b r
    → Does (EditsLine (all_made es) t) a b r
edits_read t p q es steps now a b r spelled same is one done =
    edited_line t p (all_made es) a b r spelled
    (subst (λ o. Does (Edited o) a b r) (ap (λ l. steps_made l q) is ∙ ap (steps_made steps) one ∙ same.1 p) done)

pub edits_unread : (t : List ℕ) (p : Parts) (es : List Edit) (f : Failure) (a b : Known) (r : Done) → Spells t p
    → EndsWork f ⊎ ((answer_of f ≡ Rejected) × (are_readable es ≡ false)) → r ≡ Err f → b ≡ a
    → Does (EditsLine (all_made es) t) a b r
edits_unread t p es f a b r spelled (inl ends) is kept = subst (Does (EditsLine (all_made es) t) a b) (sym is) (inl ends)
edits_unread t p es f a b r spelled (inr rejected) is kept =
    edited_line t p (all_made es) a b r spelled (not_edited (all_made es p) f a b r (inr (unreadable_made es rejected.1 p, rejected.0)) is kept)

pub edits_made : (t : List ℕ) (words : List (List ℕ)) (changes now : List Change) (a b : Known) (r : Done)
    → edits_of words ≡ Some (map edit_of changes) → now ≡ changes
    → Does (EditsLine (all_made (map edit_of now)) t) a b r → Does (Edits t words) a b r
edits_made t words changes now a b r are same done =
    subst (λ o. Does (λ x. MatchOption o (x ≡ Unknown) (λ l. EditsLine (all_made l) t x)) a b r) (sym are)
    (subst (λ cs. Does (EditsLine (all_made (map edit_of cs)) t) a b r) same done)

pub no_edits : (t : List ℕ) (words : List (List ℕ)) (f : Failure) (a b : Known) (r : Done)
    → EndsWork f ⊎ ((edits_of words ≡ None) × (f ≡ failures.Usage)) → r ≡ Err f → b ≡ a → Does (Edits t words) a b r
no_edits t words f a b r (inl ends) is kept = subst (Does (Edits t words) a b) (sym is) (inl ends)
no_edits t words f a b r (inr none) is kept =
    subst (Does (Edits t words) a b) (sym is)
    (inr (
      subst (λ o. MatchOption o (answer_of f ≡ Unknown) (λ l. EditsLine (all_made l) t (answer_of f))) (sym none.0)
          (ap answer_of none.1),
      kept,
    ))

pub edits_named : (words : List (List ℕ)) (changes now : List Change) (r : Result (Vec Step Global) Failure)
    → edits_of words ≡ Some (map edit_of changes) → now ≡ changes
    → ReadsChanges (map edit_of now) r → ReadsEdits words r
edits_named words changes now r are same reads =
    subst (λ o. MatchOption o (NamesNone r) (λ es. ReadsChanges es r)) (sym are) (subst (λ cs. ReadsChanges (map edit_of cs) r) same reads)

pub edits_unnamed : (words : List (List ℕ)) (f : Failure) (r : Result (Vec Step Global) Failure)
    → EndsWork f ⊎ ((edits_of words ≡ None) × (f ≡ failures.Usage))
    → r ≡ Err f → ReadsEdits words r
edits_unnamed words f r (inl ends) is = subst (ReadsEdits words) (sym is) (by_words (edits_of words))
  where
    by_words : (o : Option (List Edit)) → MatchOption o (NamesNone (Err f)) (λ es. ReadsChanges es (Err f))
    by_words None = inl ends
    by_words (Some es) = inl ends
edits_unnamed words f r (inr none) is =
    subst (ReadsEdits words) (sym is)
    (subst (λ o. MatchOption o (NamesNone (Err f)) (λ es. ReadsChanges es (Err f))) (sym none.0) (inr none.1))

pub on_edits : (texts : List (Bor (List ℕ))) (d : Bor (List ℕ)) (a b : Known) (r : Done) → 1 ≤ length texts
    → Does (Edits (slice_index_or texts 0 d).now (bytes (from 1 texts))) a b r → Does (OnEdits (bytes texts)) a b r
on_edits [] d a b r long done = absurd (omega arith)
on_edits (t ∷ ts) d a b r long done = subst (λ l. Does (Edits t.now (bytes l)) a b r) (from_is 1 (t ∷ ts)) done
