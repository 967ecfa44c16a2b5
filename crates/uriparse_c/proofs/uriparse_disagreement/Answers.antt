use Rattle.uriparse_ffi.specs.Code as spec
use Rattle.uriparse_ffi.proofs.lemmas.TextLemmas.{no_error, no_ok}
use Rattle.uriparse_c.proofs.uriparse_disagreement.Goals as goal

pub returns-in-Ok-clause-refused : goal.returns-in-Ok-clause-refused
returns-in-Ok-clause-refused c e h = absurd (no_error c.in-Ok.sum (spec.code_of e) (c.in-Ok.ensures.fault e h))

pub returns-in-Err-clause-checked : goal.returns-in-Err-clause-checked
returns-in-Err-clause-checked c p s = absurd (no_ok c.in-Err.code _ (c.in-Err.ensures.checked p s))
