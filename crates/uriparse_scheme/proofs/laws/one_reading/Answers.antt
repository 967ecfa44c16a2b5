use Rattle.uriparse_scheme.proofs.lemmas.schemes.SchemeLemmas.{reads, one_scheme, valid_spelled, spells_back}
use Rattle.uriparse_scheme.proofs.laws.one_reading.Goals as goal

pub returns-clause-reads : goal.returns-clause-reads
returns-clause-reads c = reads

pub returns-clause-one : goal.returns-clause-one
returns-clause-one c = one_scheme

pub returns-clause-valid : goal.returns-clause-valid
returns-clause-valid c = valid_spelled

pub returns-clause-back : goal.returns-clause-back
returns-clause-back c = spells_back
