use Rattle.std.proofs.Common.{◌≡◌, [], ◌∷◌, map, arith, rules}
use Rattle.std.specs.Prelude.{IfOk}
use Rattle.std.specs.Option.{option_copied}
use Rattle.uriparse_text.specs.Pairs.{decoded_pair, encoded_pair, joined_pairs, pairs}
use Rattle.uriparse_reference.proofs.lemmas.edits.PairEditLemmas.{back_alone, pair_alone}
use Rattle.uriparse_reference.proofs.uri_reference.pairs.query_of_pair.Goals as goal

pub returns-clause-pairs : goal.returns-clause-pairs
returns-clause-pairs c =
    let text : IfOk c.from_pairs.result (λ q. q ≡ joined_pairs (map encoded_pair ((c.args.name.now, option_copied c.args.value) ∷ []))) = search rules in
    pair_alone (c.args.name.now, option_copied c.args.value) c.from_pairs.result text

pub returns-clause-back : goal.returns-clause-back
returns-clause-back c =
    let text : IfOk c.from_pairs.result (λ q. q ≡ joined_pairs (map encoded_pair ((c.args.name.now, option_copied c.args.value) ∷ []))) = search rules in
    let back : IfOk c.from_pairs.result (λ q. map decoded_pair (pairs q) ≡ (c.args.name.now, option_copied c.args.value) ∷ []) = c.from_pairs.ensures.back (omega arith) in
    back_alone (c.args.name.now, option_copied c.args.value) c.from_pairs.result text back
