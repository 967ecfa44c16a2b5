use Rattle.std.proofs.Common.{map, ap, ◌∙◌, rules}
use Rattle.std.proofs.lemmas.List.Sorted.{answers_always}
use Rattle.uriparse_text.specs.Pairs as spec
use Rattle.uriparse_text.specs.Written.{ended}
use Rattle.uriparse_text.proofs.lemmas.readings.SortLemmas.{less, order, piece_name, pieces_sorted, sorted_back, sorted_pieces, sorted_some}
use Rattle.uriparse_text.proofs.query.sort.Query.sorted_pairs.Goals as goal

pub query_of_pieces-requires : goal.query_of_pieces-requires
query_of_pieces-requires c =
    let are = c.in_ok-pieces.ensures in
    let moved = c.in_ok-sort_by.ensures.permutation in
    (map (λ s. s.now) c.sort_by.new.self.items, (c.in_ok-text.ensures ∙ ap (λ ss. ended (map (λ s. s.now) ss)) c.deref.ensures.value, sorted_pieces c.as_bytes-query.result.now _ _ are moved), sorted_some c.as_bytes-query.result.now _ _ are moved)

pub returns-clause-pairs : goal.returns-clause-pairs
returns-clause-pairs c =
    let are = c.in_ok-pieces.ensures in
    let moved = c.in_ok-sort_by.ensures.permutation in
    let up = c.in_ok-sort_by.ensures.sorted (less piece_name) (order piece_name) (answers_always _ _ _ (λ f a r q k. search rules)) in
    let kept = c.in_ok-sort_by.ensures.stable (less piece_name) (order piece_name) (answers_always _ _ _ (λ f a r q k. search rules)) in
    c.query_of_pieces.ensures (map (λ s. s.now) c.sort_by.new.self.items) (c.in_ok-text.ensures ∙ ap (λ ss. ended (map (λ s. s.now) ss)) c.deref.ensures.value, sorted_pieces c.as_bytes-query.result.now _ _ are moved)
    ∙ pieces_sorted c.as_bytes-query.result.now _ _ are up kept ∙ ap (λ q. spec.sorted_pairs (spec.pairs q)) c.as_bytes-query.ensures.value

pub returns-clause-back : goal.returns-clause-back
returns-clause-back c = sorted_back _ _ (returns-clause-pairs c)
