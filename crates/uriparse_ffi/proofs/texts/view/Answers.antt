use Rattle.std.proofs.Common.{ap, Ok}
use Rattle.uriparse_ffi.proofs.lemmas.TextLemmas.{no_ok, ok_is}
use Rattle.uriparse_ffi.proofs.texts.view.Goals as goal

pub returns-in-Ok-clause-found : goal.returns-in-Ok-clause-found
returns-in-Ok-clause-found c p s = ap Ok (ok_is c.in-Ok.view _ (c.in-Ok.ensures.only p s))

pub returns-in-Err-clause-found : goal.returns-in-Err-clause-found
returns-in-Err-clause-found c p s = absurd (no_ok c.in-Err.error _ (c.in-Err.ensures.only p s))
