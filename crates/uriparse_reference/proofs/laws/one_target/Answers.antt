use Rattle.uriparse_reference.proofs.lemmas.resolving.MergedPathLemmas.{directory_none}
use Rattle.uriparse_reference.proofs.lemmas.resolving.ValidTargetLemmas.{target_valid, target_alone, target_none, directory_last}
use Rattle.uriparse_reference.proofs.laws.one_target.Goals as goal

pub returns : goal.returns
returns c = record { valid = target_valid; alone = target_alone; none = target_none; last_slash = directory_last; no_slash = directory_none }
