use Rattle.uriparse_reference.proofs.lemmas.edits.EditListLemmas.{one_run}
use Rattle.uriparse_reference.proofs.laws.one_run.Goals as goal

pub returns : goal.returns
returns c = one_run
