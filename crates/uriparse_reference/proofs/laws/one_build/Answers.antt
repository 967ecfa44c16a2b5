use Rattle.uriparse_reference.proofs.lemmas.edits.EditLemmas.{own_parts}
use Rattle.uriparse_reference.proofs.laws.one_build.Goals as goal

pub returns : goal.returns
returns c = own_parts
