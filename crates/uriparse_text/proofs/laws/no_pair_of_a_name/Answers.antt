use Rattle.uriparse_text.proofs.lemmas.readings.SetLemmas.{all_others, none_named, other_pairs, others_twice}
use Rattle.uriparse_text.proofs.laws.no_pair_of_a_name.Goals as goal

pub returns : goal.returns
returns c = record { none = none_named; twice = others_twice; kept = all_others; set = other_pairs }
