use Rattle.uriparse_text.proofs.lemmas.readings.SortLemmas.{ascending-sorted_pairs, moved-sorted_pairs, named-sorted_pairs, one-sorted_pairs}
use Rattle.uriparse_text.proofs.laws.one_order_of_pairs.Goals as goal

pub returns : goal.returns
returns c = record { same = moved-sorted_pairs; ascending = ascending-sorted_pairs; stable = named-sorted_pairs; one = one-sorted_pairs }
