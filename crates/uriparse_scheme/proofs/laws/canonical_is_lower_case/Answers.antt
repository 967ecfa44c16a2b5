use Rattle.uriparse_scheme.proofs.lemmas.schemes.GrammarLemmas.{canonical_low_of_scheme, well_formed-scheme}
use Rattle.uriparse_scheme.proofs.lemmas.schemes.SchemeLemmas.{canonical_spelled}
use Rattle.uriparse_scheme.proofs.laws.canonical_is_lower_case.Goals as goal

pub returns-clause-formed : goal.returns-clause-formed
returns-clause-formed c = well_formed-scheme

pub returns-clause-lowered : goal.returns-clause-lowered
returns-clause-lowered c = canonical_low_of_scheme

pub returns-clause-spelled : goal.returns-clause-spelled
returns-clause-spelled c = canonical_spelled
