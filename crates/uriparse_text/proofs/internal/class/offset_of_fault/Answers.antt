use Rattle.uriparse_text.proofs.lemmas.classes.OffsetLemmas.{offset_is}
use Rattle.uriparse_text.proofs.internal.class.offset_of_fault.Goals as goal

pub returns-clause-offset : goal.returns-clause-offset
returns-clause-offset c = offset_is c.args.class c.args.text.now c.fault_offset.result c.fault_offset.ensures
