use Rattle.uriparse_ffi.proofs.lemmas.HiddenLemmas as lemmas
use Rattle.uriparse_ffi.proofs.laws.what_is_hidden.Goals as goal

pub returns : goal.returns
returns c = record { port = lemmas.spells_without_port; password = lemmas.spells_masked }
