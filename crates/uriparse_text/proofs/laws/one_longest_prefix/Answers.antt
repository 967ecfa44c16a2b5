use Rattle.uriparse_text.proofs.lemmas.addresses.ReachLemmas.{row_of-longest, row_of-none}
use Rattle.uriparse_text.proofs.laws.one_longest_prefix.Goals as goal

pub returns-clause-some : goal.returns-clause-some
returns-clause-some c = row_of-longest

pub returns-clause-none : goal.returns-clause-none
returns-clause-none c = row_of-none
