use Rattle.uriparse_reference.proofs.lemmas.resolving.RelativeLemmas.{relates, relative_back, relative_spelled, valid_relative}
use Rattle.uriparse_reference.proofs.laws.one_relative.Goals as goal

pub returns : goal.returns
returns c = record { valid = valid_relative; spelled = relative_spelled; relates = relates; back = relative_back }
