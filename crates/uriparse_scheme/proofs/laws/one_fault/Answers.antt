use Rattle.uriparse_scheme.proofs.lemmas.schemes.SchemeLemmas.{no_fault, fault_empty, fault_first, fault_later}
use Rattle.uriparse_scheme.proofs.laws.one_fault.Goals as goal

pub returns-clause-none : goal.returns-clause-none
returns-clause-none c = no_fault

pub returns-clause-empty : goal.returns-clause-empty
returns-clause-empty c = fault_empty

pub returns-clause-first : goal.returns-clause-first
returns-clause-first c = fault_first

pub returns-clause-later : goal.returns-clause-later
returns-clause-later c = fault_later
