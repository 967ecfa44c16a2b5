use Rattle.uriparse.proofs.lemmas.DisagreementLemmas.{agrees, alike, never_future, never_hostless}
use Rattle.uriparse.proofs.lemmas.DisagreementLawLemmas.{agrees_normal, agrees_target}
use Rattle.uriparse.proofs.laws.readers.readers_agree.Goals as goal

pub returns : goal.returns
returns c = record {
  alike = λ idna t p s e. alike idna t p s (agrees p e);
  normal = agrees_normal;
  target = agrees_target;
  no_host = never_hostless;
  later_address = never_future;
}
