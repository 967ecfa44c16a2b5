use Rattle.uriparse_scheme.proofs.lemmas.table.SortedLemmas.{names_sorted, lowered_names}
use Rattle.uriparse_scheme.proofs.lemmas.table.TableLemmas.{listed, listed_once, same_name, name_is_scheme, named_iff}
use Rattle.uriparse_scheme.proofs.laws.table_is_one_to_one.Goals as goal

pub returns-clause-sorted : goal.returns-clause-sorted
returns-clause-sorted c = names_sorted

pub returns-clause-lowered : goal.returns-clause-lowered
returns-clause-lowered c = lowered_names

pub returns-clause-listed : goal.returns-clause-listed
returns-clause-listed c = listed

pub returns-clause-once : goal.returns-clause-once
returns-clause-once c = listed_once

pub returns-clause-distinct : goal.returns-clause-distinct
returns-clause-distinct c = same_name

pub returns-clause-grammar : goal.returns-clause-grammar
returns-clause-grammar c = name_is_scheme

pub returns-clause-named : goal.returns-clause-named
returns-clause-named c = named_iff
