use Rattle.uriparse_text.proofs.lemmas.classes.OffsetLemmas.{fault_there, faultless_before, fault_before_end}
use Rattle.uriparse_text.proofs.laws.one_offset_of_fault.Goals as goal

pub returns : goal.returns
returns c = record { byte = fault_there; before = faultless_before; within = fault_before_end }
