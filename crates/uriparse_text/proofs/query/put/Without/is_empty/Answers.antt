use Rattle.std.specs.Prelude.{is_some, not}
use Rattle.uriparse_text.specs.Pairs.{is_among_names, pairs}
use Rattle.uriparse_text.proofs.lemmas.readings.PutPairLemmas.{empty_when}
use Rattle.uriparse_text.proofs.query.put.Without.is_empty.Goals as goal

pub returns : goal.returns
returns c =
    empty_when (λ p. not (is_among_names (pairs c.args.self.now.names.now) p)) (pairs c.args.self.now.query.now) c.is_none.result
    (is_some c.from_first.result) c.from_first.ensures.some c.is_none.ensures
