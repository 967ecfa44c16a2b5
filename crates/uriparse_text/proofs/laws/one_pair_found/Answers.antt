use Rattle.uriparse_text.specs.Pairs.{is_named, with_pair}
use Rattle.uriparse_text.proofs.lemmas.readings.NamedLemmas.{find_only}
use Rattle.uriparse_text.proofs.lemmas.readings.SetLemmas.{named_pairs, set_at_end}
use Rattle.uriparse_text.proofs.laws.one_pair_found.Goals as goal

pub returns : goal.returns
returns c = record { set = λ name new ps named. find_only (is_named name) (with_pair name new ps) new (named_pairs name new ps named); appended = set_at_end }
