use Rattle.uriparse_scheme.proofs.lemmas.schemes.SchemeLemmas.{unregistered_reads}
use Rattle.uriparse_scheme.proofs.laws.one_unregistered_reading.Goals as goal

pub returns : goal.returns
returns c = unregistered_reads
