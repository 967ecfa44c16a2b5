use Rattle.uriparse_reference.proofs.lemmas.reading.ReadingLemmas.{one_reading, again, found, none_exactly}
use Rattle.uriparse_reference.proofs.lemmas.reading.SpellingLemmas.{valid}
use Rattle.uriparse_reference.proofs.laws.one_reading.Goals as goal

pub returns : goal.returns
returns c = record {
  one = one_reading;
  reads = λ t p. (found t p, again t p);
  none = none_exactly;
  valid = valid;
}
