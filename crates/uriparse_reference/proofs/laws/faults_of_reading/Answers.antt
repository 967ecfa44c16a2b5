use Rattle.uriparse_reference.proofs.lemmas.reading.FaultSourceLemmas.{never_missing, never_scheme, never_slashes, never_want}
use Rattle.uriparse_reference.proofs.lemmas.reading.FaultSourceLemmas.{never_colon, never_unsupported}
use Rattle.uriparse_reference.proofs.laws.faults_of_reading.Goals as goal

pub returns : goal.returns
returns c = record {
  slashes = never_slashes;
  missing = never_missing;
  scheme = never_scheme;
  memory = never_want;
  unsupported = never_unsupported;
  colon = never_colon;
}
