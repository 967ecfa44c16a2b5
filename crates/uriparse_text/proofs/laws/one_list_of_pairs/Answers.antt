use Rattle.uriparse_text.proofs.lemmas.readings.PairLemmas.{joined-pairs, pairs-joined, written_back}
use Rattle.uriparse_text.proofs.lemmas.tokens.BackLemmas.{form_back, form_decoded-encoded}
use Rattle.uriparse_text.proofs.laws.one_list_of_pairs.Goals as goal

pub returns : goal.returns
returns c = record { joined = joined-pairs; encoded = pairs-joined; decoded = written_back; form = form_back; form_text = form_decoded-encoded }
