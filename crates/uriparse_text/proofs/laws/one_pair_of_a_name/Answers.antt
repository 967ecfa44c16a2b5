use Rattle.uriparse_text.proofs.lemmas.readings.SetLemmas.{named_pairs, other_pairs, set_at_end, set_twice}
use Rattle.uriparse_text.proofs.laws.one_pair_of_a_name.Goals as goal

pub returns : goal.returns
returns c = record { one = named_pairs; others = other_pairs; last = set_at_end; twice = set_twice }
