use Rattle.uriparse_ffi.proofs.lemmas.CodeLemmas as lemmas
use Rattle.uriparse_ffi.proofs.laws.one_code.Goals as goal

pub returns-clause-one : goal.returns-clause-one
returns-clause-one c = lemmas.one

pub returns-clause-one_uri : goal.returns-clause-one_uri
returns-clause-one_uri c = lemmas.one_uri

pub returns-clause-one_base : goal.returns-clause-one_base
returns-clause-one_base c = lemmas.one_base

pub returns-clause-not_accepted : goal.returns-clause-not_accepted
returns-clause-not_accepted c = lemmas.not_accepted

pub returns-clause-not_no_room : goal.returns-clause-not_no_room
returns-clause-not_no_room c = lemmas.not_no_room
