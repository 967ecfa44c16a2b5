use Rattle.uriparse_path.proofs.lemmas.normal.DeletionLemmas.{leads_iff, relnormal_iff}
use Rattle.uriparse_path.proofs.lemmas.normal.RelativeFormLemmas.{irreducible_iff}
use Rattle.uriparse_path.proofs.laws.one_relative_normal_form.Goals as goal

pub returns : goal.returns
returns c = record { list = leads_iff; irreducible = irreducible_iff; normal = relnormal_iff }
