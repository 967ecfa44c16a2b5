use Rattle.uriparse_reference.proofs.lemmas.edits.EditLemmas.{own_parts}
use Rattle.uriparse_reference.proofs.lemmas.edits.EditListLemmas.{edited_parts}
use Rattle.uriparse_reference.proofs.laws.one_edit.Goals as goal

pub returns : goal.returns
returns c = record { own = own_parts; replaced = edited_parts }
