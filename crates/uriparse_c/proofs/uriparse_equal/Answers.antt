use Rattle.std.proofs.Common.{refl, ap, ◌∙◌}
use Rattle.uriparse_ffi.specs.Code.{truth}
use Rattle.uriparse_ffi.specs.Code as spec
use Rattle.uriparse_ffi.proofs.lemmas.TextLemmas.{no_error, no_ok, ok_is, err_is}
use Rattle.uriparse_c.proofs.uriparse_equal.Goals as goal

pub returns-in-Ok-clause-compared : goal.returns-in-Ok-clause-compared
returns-in-Ok-clause-compared c p q s s' = (refl, c.truth_of.ensures ∙ ap truth (ok_is c.in-Ok.answer _ (c.in-Ok.ensures.compared p q s s')))

pub returns-in-Ok-clause-left : goal.returns-in-Ok-clause-left
returns-in-Ok-clause-left c e h = absurd (no_error c.in-Ok.answer (spec.code_of e) (c.in-Ok.ensures.left e h))

pub returns-in-Ok-clause-right : goal.returns-in-Ok-clause-right
returns-in-Ok-clause-right c p e s h = absurd (no_error c.in-Ok.answer (spec.code_of e) (c.in-Ok.ensures.right p e s h))

pub returns-in-Err-clause-compared : goal.returns-in-Err-clause-compared
returns-in-Err-clause-compared c p q s s' = absurd (no_ok c.in-Err.code _ (c.in-Err.ensures.compared p q s s'))

pub returns-in-Err-clause-left : goal.returns-in-Err-clause-left
returns-in-Err-clause-left c e h = (err_is c.in-Err.code (spec.code_of e) (c.in-Err.ensures.left e h), refl)

pub returns-in-Err-clause-right : goal.returns-in-Err-clause-right
returns-in-Err-clause-right c p e s h = (err_is c.in-Err.code (spec.code_of e) (c.in-Err.ensures.right p e s h), refl)
