use Rattle.std.proofs.Common.{refl}
use Rattle.uriparse_ffi.specs.Code as spec
use Rattle.uriparse_ffi.proofs.lemmas.TextLemmas.{no_error, no_ok, ok_is, err_is}
use Rattle.uriparse_c.proofs.uriparse_hash.Goals as goal

pub returns-in-Ok-clause-hashed : goal.returns-in-Ok-clause-hashed
returns-in-Ok-clause-hashed c p s = (refl, ok_is c.in-Ok.number _ (c.in-Ok.ensures.hashed p s))

pub returns-in-Ok-clause-refused : goal.returns-in-Ok-clause-refused
returns-in-Ok-clause-refused c e h = absurd (no_error c.in-Ok.number (spec.code_of e) (c.in-Ok.ensures.fault e h))

pub returns-in-Err-clause-hashed : goal.returns-in-Err-clause-hashed
returns-in-Err-clause-hashed c p s = absurd (no_ok c.in-Err.code _ (c.in-Err.ensures.hashed p s))

pub returns-in-Err-clause-refused : goal.returns-in-Err-clause-refused
returns-in-Err-clause-refused c e h = (err_is c.in-Err.code (spec.code_of e) (c.in-Err.ensures.fault e h), refl)
