use Rattle.uriparse_text.proofs.lemmas.tokens.StartLemmas.{leaves_both}
use Rattle.uriparse_ffi.proofs.requests.append_query.Goals as goal

pub returns-in-Some-clause-rest : goal.returns-in-Some-clause-rest
returns-in-Some-clause-rest c = leaves_both _ _ _ _ _ _ c.append-len.ensures.rest c.append.ensures.rest
