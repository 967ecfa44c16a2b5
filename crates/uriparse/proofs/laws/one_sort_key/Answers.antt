use Rattle.uriparse.proofs.lemmas.KeyFormLemmas.{valid_in_form}
use Rattle.uriparse.proofs.lemmas.SortKeyLemmas.{key_bytes, keys_ordered, never_spelled, same_keys}
use Rattle.uriparse.proofs.laws.one_sort_key.Goals as goal

pub returns : goal.returns
returns c = record { order = keys_ordered; same = same_keys; bytes = key_bytes; apart = never_spelled; valid = valid_in_form }
