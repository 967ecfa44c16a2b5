use Rattle.uriparse_path.proofs.lemmas.reading.ReadingLemmas.{no_fault_iff}
use Rattle.uriparse_path.proofs.lemmas.reading.LengthFaultLemmas.{never_memory}
use Rattle.uriparse_path.proofs.laws.no_fault.Goals as goal

pub returns : goal.returns
returns c = record { none = no_fault_iff; memory = never_memory }
