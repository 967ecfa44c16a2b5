use Rattle.uriparse_reference.proofs.lemmas.equality.EqualityLemmas.{same_key}
use Rattle.uriparse_reference.proofs.lemmas.equality.HashLemmas.{fed_parts}
use Rattle.uriparse_reference.proofs.laws.one_key.Goals as goal

pub returns : goal.returns
returns c = record { same = same_key; fed = fed_parts }
