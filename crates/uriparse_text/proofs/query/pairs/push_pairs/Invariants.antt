use Rattle.std.proofs.Common.{◌≡◌, ◌++◌, true, take, map}
use Rattle.std.specs.List.{list_all}
use Rattle.uriparse_text.specs.Pairs.{are_pair_bytes, given}
use Rattle.uriparse_text.proofs.lemmas.readings.PairLemmas.{written_after}
use Rattle.uriparse_text.proofs.query.pairs.push_pairs.Given as goal

abbrev pub invariant-loop-pair : goal.invariant-loop-pair
invariant-loop-pair l =
    (l.text.items ≡ l.initial.text.items ++ written_after (take l.pair-index l.others))
    × (list_all are_pair_bytes (map given (take l.pair-index l.others)) ≡ true)
