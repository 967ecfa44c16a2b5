-- The pairs of the query of a reference.
use Rattle.std.proofs.Common.{◌≡◌, ℕ, arith, true, get_or, List, [], ◌∷◌, map, Option, Some, None, Ok, Err, refl, sym, ap, ◌∙◌}
use Rattle.std.specs.Prelude.{IfOk, Result}
use Rattle.std.specs.Prelude.{bytes_eq, cond}
use Rattle.std.specs.List.{filter}
use Rattle.std.proofs.lemmas.Slice.Eq.{bytes_eq-Decides}
use Rattle.uriparse_text.specs.Pairs.{Pair, decoded_pair, encoded_pair, is_named, joined_pairs, pairs, pairs_left}
use Rattle.uriparse_text.proofs.lemmas.readings.PairLemmas.{first_pair, joined-pairs, pairs-joined}
use Rattle.uriparse_reference.specs.Edits.{edited}
use Rattle.uriparse_reference.specs.PairEdits.{pairs_of, query_of, with_pairs}
use Rattle.uriparse_reference.specs.Reference.{Parts, Spells}
use Rattle.uriparse_reference.specs.TextEdits.{with_end, with_query}
use Rattle.uriparse_reference.proofs.lemmas.reading.TextEditLemmas.{own_end, query_end}
use Rattle.uriparse_reference.specs.declared.uri_reference.edit.Edit.TheVariants as edits

some_pairs : (ps : List Pair) (p : Pair) (qs : List Pair) → ps ≡ p ∷ qs → query_of ps ≡ Some (joined_pairs ps)
some_pairs ps p qs e = ap query_of e ∙ ap (λ l. Some (joined_pairs l)) (sym e)

-- a query is the one of its pairs
pub query_is : (o : Option (List ℕ)) → query_of (pairs_left o) ≡ o
query_is None = refl
query_is (Some q) = some_pairs (pairs q) _ _ (first_pair q) ∙ ap Some (joined-pairs q)

-- the pairs of the query of one pair
pub pair_alone : {E : Type 0} (p : Pair) (r : Result (List ℕ) E) → IfOk r (λ q. q ≡ joined_pairs (map encoded_pair (p ∷ [])))
    → IfOk r (λ q. pairs q ≡ encoded_pair p ∷ [])
pair_alone p (Ok q) e = ap pairs e ∙ pairs-joined (p ∷ []) (omega arith)
pair_alone p (Err x) e = tt

-- the pair alone is the one of its name, and is read back
pub alone_back : (p : Pair) (ps : List Pair) → ps ≡ encoded_pair p ∷ [] → map decoded_pair ps ≡ p ∷ [] → map decoded_pair (filter (is_named p.0) ps) ≡ p ∷ []
alone_back p ps e said =
    let back : decoded_pair (encoded_pair p) ≡ p = ap (λ l. get_or l 0 p) (ap (map decoded_pair) (sym e) ∙ said) in
    let named : is_named p.0 (encoded_pair p) ≡ true = ap (λ q. bytes_eq q.0 p.0) back ∙ (bytes_eq-Decides p.0 p.0).1 refl in
    ap (λ l. map decoded_pair (filter (is_named p.0) l)) e
    ∙ ap (λ v. map decoded_pair (cond v (encoded_pair p ∷ []) [])) named ∙ ap (λ q. q ∷ []) back

pub back_alone : {E : Type 0} (p : Pair) (r : Result (List ℕ) E) → IfOk r (λ q. q ≡ joined_pairs (map encoded_pair (p ∷ []))) → IfOk r (λ q. map decoded_pair (pairs q) ≡ p ∷ [])
    → IfOk r (λ q. map decoded_pair (filter (is_named p.0) (pairs q)) ≡ p ∷ [])
back_alone p (Ok q) e said = alone_back p (pairs q) (ap pairs e ∙ pairs-joined (p ∷ []) (omega arith)) said
back_alone p (Err x) e said = tt

-- a query of these pairs is the one that they make
pub query_made : (o : Option (List ℕ)) (ps : List Pair) → pairs_left o ≡ ps → o ≡ query_of ps
query_made o ps e = sym (query_is o) ∙ ap query_of e

-- the components with that query
pub parts_made : {E : Type 0} (r : Result (Unit {0}) E) (p n : Parts) (o : Option (List ℕ)) (ps : List Pair) → pairs_left o ≡ ps
    → IfOk r (λ _. edited p (edits.Query o) ≡ Ok n) → IfOk r (λ _. n ≡ with_pairs p ps)
parts_made (Ok x) p n o ps e h =
    let same : record p { query = o } ≡ n = cc in sym same ∙ ap (λ q. record p { query = q }) (query_made o ps e)
parts_made (Err x) p n o ps e h = tt

-- the pairs of the components with that query
pub pairs_put : (p n : Parts) (q : List ℕ) → n ≡ with_pairs p (pairs q) → pairs_of n ≡ pairs q
pairs_put p n q e = ap pairs_of e ∙ ap pairs_left (query_is (Some q))

-- what is read of the one pair of a name is read of the components that are made
pub back_made : {E : Type 0} (name : List ℕ) (r : Result (Unit {0}) E) (p n : Parts) (q : List ℕ) (ps qs : List Pair) → pairs q ≡ ps
    → map decoded_pair (filter (is_named name) (pairs q)) ≡ qs → IfOk r (λ _. n ≡ with_pairs p ps) → IfOk r (λ _. map decoded_pair (filter (is_named name) (pairs_of n)) ≡ qs)
back_made name (Ok x) p n q ps qs is back made =
    ap (λ l. map decoded_pair (filter (is_named name) l)) (pairs_put p n q (made ∙ ap (with_pairs p) (sym is))) ∙ back
back_made name (Err x) p n q ps qs is back made = tt

-- a text without a query is the same text without one
pub without_query : (t : List ℕ) (p : Parts) → Spells t p → p.query ≡ None → with_query t None ≡ t
without_query t p s none = sym (query_end t p s None p.fragment refl) ∙ ap (λ q. with_end t q p.fragment) (sym none) ∙ own_end t p s
