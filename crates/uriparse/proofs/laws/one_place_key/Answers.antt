use Rattle.uriparse.proofs.lemmas.PlaceByteLemmas.{base_bytes, domain_bytes, key_bytes}
use Rattle.uriparse.proofs.lemmas.PlaceKeyLemmas.{base_law, domain_law, same_law}
use Rattle.uriparse.proofs.lemmas.PlaceListLemmas.{between, between_keys}
use Rattle.uriparse.proofs.laws.one_place_key.Goals as goal

pub returns : goal.returns
returns c = record {
  domain = domain_law;
  base = base_law;
  between = between;
  between_keys = between_keys;
  same = same_law;
  bytes = key_bytes;
  domain_bytes = domain_bytes;
  base_bytes = base_bytes;
}
