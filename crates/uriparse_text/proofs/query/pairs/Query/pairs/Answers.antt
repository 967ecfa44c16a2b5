use Rattle.uriparse_text.proofs.lemmas.readings.PairLemmas.{joined-pairs}
use Rattle.uriparse_text.proofs.query.pairs.Query.pairs.Goals as goal

pub returns-clause-joined : goal.returns-clause-joined
returns-clause-joined c = joined-pairs c.args.self.now
