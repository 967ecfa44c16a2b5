use Rattle.uriparse_reference.proofs.lemmas.resolving.CommutationLemmas.{commutes}
use Rattle.uriparse_reference.proofs.laws.normalising_commutes.Goals as goal

pub returns : goal.returns
returns c = commutes
