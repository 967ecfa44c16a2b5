use Rattle.uriparse_reference.proofs.lemmas.reading.SpellingLemmas.{back}
use Rattle.uriparse_reference.proofs.lemmas.reading.PrintedLemmas.{spelled_reads_back, plain_back, printed_apart}
use Rattle.uriparse_reference.proofs.laws.reading_back.Goals as goal

pub returns : goal.returns
returns c = record { spelled = spelled_reads_back; back = back; plain = plain_back; one = printed_apart }
