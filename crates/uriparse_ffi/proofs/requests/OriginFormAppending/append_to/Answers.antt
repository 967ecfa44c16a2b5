use Rattle.uriparse_text.proofs.lemmas.tokens.StartLemmas.{leaves_both}
use Rattle.uriparse_ffi.proofs.requests.OriginFormAppending.append_to.Goals as goal

pub returns-clause-rest : goal.returns-clause-rest
returns-clause-rest c = leaves_both _ _ _ _ _ _ c.append-len.ensures.rest c.append_query.ensures.rest
