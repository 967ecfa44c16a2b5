use Rattle.std.proofs.Common.{◌≡◌, true}
use Rattle.std.specs.Option.{option_copied}
use Rattle.uriparse_text.specs.Pairs.{are_pair_bytes, given}
use Rattle.uriparse_text.proofs.lemmas.readings.SetLemmas.{Setting}
use Rattle.uriparse_text.proofs.lemmas.readings.WithoutLemmas.{left_of}
use Rattle.uriparse_text.proofs.query.set.set_pieces.Given as goal

abbrev pub invariant-loop-rest : goal.invariant-loop-rest
invariant-loop-rest l =
    Setting l.fn.pair.0.now (given l.fn.pair) l.fn.query l.is_set (option_copied l.rest) l.text.items
    × (l.is_set ≡ true → are_pair_bytes (given l.fn.pair) ≡ true)

abbrev pub decreases-loop-rest : goal.decreases-loop-rest
decreases-loop-rest l = left_of (option_copied l.rest)
