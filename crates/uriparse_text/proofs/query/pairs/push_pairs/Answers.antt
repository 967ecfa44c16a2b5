use Rattle.std.proofs.Common.{◌≡◌, ◌∷◌, ◌++◌, map, take_all, sym, ap, ◌∙◌, append_assoc, rules, arith}
use Rattle.uriparse_text.specs.Pairs.{piece_of, encoded_pair, joined_pairs, given}
use Rattle.uriparse_text.proofs.lemmas.readings.PairLemmas.{written_after, written_joined}
use Rattle.uriparse_text.proofs.query.pairs.push_pairs.Goals as goal

pub returns-clause-text : goal.returns-clause-text
returns-clause-text c =
    let others = c.in-Some.others.now in
    let cut : c.in-Some.first.now ∷ others ≡ c.args.pairs.now = search rules in
    c.loop-pair.invariant.0
    ∙ ap (λ l. c.push_pair.new.text.items ++ written_after l) (take_all c.loop-pair.pair-index others (omega arith))
    ∙ ap (λ l. l ++ written_after others) c.in_ok-push_pair.ensures.text
    ∙ append_assoc c.args.text.now.items (piece_of (encoded_pair (given c.in-Some.first.now))) (written_after others)
    ∙ ap (λ l. c.args.text.now.items ++ l) (sym (written_joined c.in-Some.first.now others)
    ∙ ap (λ ps. joined_pairs (map encoded_pair (map given ps))) cut)
