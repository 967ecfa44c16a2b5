use Rattle.uriparse_reference.proofs.lemmas.writing.BackLemmas.{normal_read, printed_read, target_read}
use Rattle.uriparse_reference.proofs.laws.reading_what_is_written.Goals as goal

pub returns : goal.returns
returns c = record { text = printed_read; normal = normal_read; target = target_read }
