use Rattle.uriparse_path.proofs.lemmas.reading.ReadingLemmas.{limit_is}
use Rattle.uriparse_path.proofs.laws.one_limit.Goals as goal

pub returns : goal.returns
returns c = limit_is
