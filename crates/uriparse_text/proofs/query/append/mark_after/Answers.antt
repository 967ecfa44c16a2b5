use Rattle.std.proofs.Common.{◌≡◌, ◌∷◌, [], inl, inr, true, false, refl, sym, ◌∙◌, rules}
use Rattle.std.proofs.lemmas.Bool.{false≢true}
use Rattle.uriparse_text.specs.Bytes.{ampersand}
use Rattle.uriparse_text.proofs.lemmas.readings.NamedLemmas.{marked_pairs, marked_query}
use Rattle.uriparse_text.proofs.query.append.mark_after.Goals as goal

pub returns-then-ends_open-clause-pairs : goal.returns-then-ends_open-clause-pairs
returns-then-ends_open-clause-pairs c = λ piece.
    let yes : c.ends_open.result ≡ true = search rules in
    marked_pairs c.args.query.now [] (inl (refl, c.ends_open.ensures.0 yes)) piece

pub returns-then-ends_open-clause-query : goal.returns-then-ends_open-clause-query
returns-then-ends_open-clause-query c = λ piece h k.
    let yes : c.ends_open.result ≡ true = search rules in
    marked_query c.args.query.now [] (inl (refl, c.ends_open.ensures.0 yes)) piece h k

pub returns-else-ends_open-clause-pairs : goal.returns-else-ends_open-clause-pairs
returns-else-ends_open-clause-pairs c = λ piece.
    let no : c.ends_open.result ≡ false = search rules in
    marked_pairs c.args.query.now (ampersand ∷ []) (inr (refl, λ o. false≢true (sym no ∙ c.ends_open.ensures.1 o))) piece

pub returns-else-ends_open-clause-query : goal.returns-else-ends_open-clause-query
returns-else-ends_open-clause-query c = λ piece h k.
    let no : c.ends_open.result ≡ false = search rules in
    marked_query c.args.query.now (ampersand ∷ []) (inr (refl, λ o. false≢true (sym no ∙ c.ends_open.ensures.1 o))) piece h k
