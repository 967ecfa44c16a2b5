use Rattle.uriparse_reference.proofs.lemmas.resolving.EqualTargetLemmas.{same_targets, same_normal, one_normal}
use Rattle.uriparse_reference.proofs.laws.equal_in_equal_out.Goals as goal

pub returns : goal.returns
returns c = record { targets = same_targets; normal = same_normal; one = one_normal }
