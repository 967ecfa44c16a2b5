use Rattle.uriparse_path.proofs.lemmas.reading.LengthFaultLemmas.{limit_passed}
use Rattle.uriparse_path.proofs.laws.length_fault.Goals as goal

pub returns : goal.returns
returns c = limit_passed
