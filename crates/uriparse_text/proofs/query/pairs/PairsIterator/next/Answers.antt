use Rattle.std.proofs.Common.{◌≡◌, ℕ, Bor, List, ◌∷◌, length, Option, Some, sym, ap, subst, ◌∙◌, rules}
use Rattle.std.specs.Prelude.{IfSome}
use Rattle.std.specs.Option.{option_copied}
use Rattle.uriparse_text.specs.Bytes.{ampersand}
use Rattle.uriparse_text.specs.Cuts.{part, after}
use Rattle.uriparse_text.specs.Query.{IsQuery}
use Rattle.uriparse_text.specs.Pairs.{pair_of, pairs_left}
use Rattle.uriparse_text.proofs.lemmas.readings.PairLemmas.{query_pieces, some_query, first_pair}
use Rattle.uriparse_text.proofs.query.pairs.PairsIterator.next.Goals as goal

pub pair_of-requires : goal.pair_of-requires
pair_of-requires c =
    let some : c.self.inside.rest ≡ Some c.in_ok-rest.rest = search rules in
    let is : IsQuery c.in_ok-rest.rest.now = some_query _ c.in_ok-rest.rest.now c.self.invariant (ap option_copied some) in
    subst IsQuery (sym c.split_at_delimiter.ensures.front) (query_pieces c.in_ok-rest.rest.now is).0

pub invariant_of-self : goal.invariant_of-self
invariant_of-self c =
    let some : c.self.inside.rest ≡ Some c.in_ok-rest.rest = search rules in
    let is : IsQuery c.in_ok-rest.rest.now = some_query _ c.in_ok-rest.rest.now c.self.invariant (ap option_copied some) in
    subst (λ o. IfSome o IsQuery) (sym (c.without_delimiter-self-inside.ensures ∙ ap part c.split_at_delimiter.ensures.rest)) (query_pieces c.in_ok-rest.rest.now is).1

pub returns-clause-steps : goal.returns-clause-steps
returns-clause-steps c =
    let some : c.self.inside.rest ≡ Some c.in_ok-rest.rest = search rules in
    sym c.self.view_is ∙ ap (λ (o : Option (Bor (List ℕ))). pairs_left (option_copied o)) some ∙ first_pair c.in_ok-rest.rest.now
    ∙ ap (λ u. pair_of u ∷ pairs_left (after ampersand c.in_ok-rest.rest.now)) (sym c.split_at_delimiter.ensures.front)
    ∙ ap (λ p. p ∷ pairs_left (after ampersand c.in_ok-rest.rest.now)) (sym c.pair_of.ensures)
    ∙ ap (λ o. c.pair_of.result ∷ pairs_left o) (sym (c.without_delimiter-self-inside.ensures ∙ ap part c.split_at_delimiter.ensures.rest))

pub returns-clause-goes : goal.returns-clause-goes
returns-clause-goes c =
    let step = returns-clause-steps c in
    let shorter = ap length step in
    search rules
