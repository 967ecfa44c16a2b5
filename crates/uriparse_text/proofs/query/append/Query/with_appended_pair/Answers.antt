use Rattle.std.proofs.Common.{◌≡◌, ◌∷◌, ◌++◌, [], sym, ap, subst, ◌∙◌, rules, arith}
use Rattle.uriparse_text.specs.Query.{IsQuery}
use Rattle.uriparse_text.specs.Pairs.{encoded_pair, given, pairs, piece_of, with_appended, without_empty_end}
use Rattle.uriparse_text.proofs.lemmas.readings.PairLemmas.{pair_decoded, pairs-joined, piece_query}
use Rattle.uriparse_text.proofs.query.append.Query.with_appended_pair.Goals as goal

pub text_from_checked_vec-requires : goal.text_from_checked_vec-requires
text_from_checked_vec-requires c =
    let new = given (c.args.name, c.args.value) in
    let is : c.push_pair.new.text.items ≡ (c.as_bytes-query.result.now ++ c.mark_after.result.now) ++ piece_of (encoded_pair new) = search rules in
    let query : IsQuery c.as_bytes-query.result.now = search rules in
    subst IsQuery (sym is) (c.mark_after.ensures.query (piece_of (encoded_pair new)) query (piece_query new))

pub returns-clause-pairs : goal.returns-clause-pairs
returns-clause-pairs c =
    let new = given (c.args.name, c.args.value) in
    let q = c.as_bytes-query.result.now in
    let is : c.push_pair.new.text.items ≡ (q ++ c.mark_after.result.now) ++ piece_of (encoded_pair new) = search rules in
    ap pairs (c.text_from_checked_vec.ensures ∙ is) ∙ c.mark_after.ensures.pairs (piece_of (encoded_pair new))
    ∙ ap (λ l. without_empty_end (pairs q) ++ l) (pairs-joined (new ∷ []) (omega arith))
    ∙ ap (λ t. with_appended (encoded_pair new) (pairs t)) c.as_bytes-query.ensures.value

pub returns-clause-back : goal.returns-clause-back
returns-clause-back c = pair_decoded (given (c.args.name, c.args.value)) c.in_ok-push_pair.ensures.bytes
