use Rattle.uriparse_path.proofs.lemmas.reading.OffsetLemmas.{before_end, escape_there, fault_there, faultless_before}
use Rattle.uriparse_path.proofs.laws.one_offset_of_fault.Goals as goal

pub returns : goal.returns
returns c = record { byte = fault_there; escape = escape_there; before = faultless_before; within = before_end }
