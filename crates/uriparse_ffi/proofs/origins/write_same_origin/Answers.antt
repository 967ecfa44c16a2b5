use Rattle.std.proofs.Common.{ap, ◌∙◌}
use Rattle.uriparse.specs.Origin.{have_same_origin}
use Rattle.uriparse_reference.specs.View.{Viewed}
use Rattle.uriparse_ffi.specs.Code as spec
use Rattle.uriparse_ffi.specs.Code.{truth}
use Rattle.uriparse_ffi.proofs.lemmas.TextLemmas.{no_error, no_ok, ok_is}
use Rattle.uriparse_ffi.proofs.origins.write_same_origin.Goals as goal

pub returns-in-Ok-clause-compared : goal.returns-in-Ok-clause-compared
returns-in-Ok-clause-compared c p q s s' =
    let written = c.write_same_origin_of.ensures.compared q s' in
    (written.0, written.1 ∙ ap (λ (v : Viewed). truth (have_same_origin v.parts q)) (ok_is c.in-Ok.left _ (c.in-Ok.ensures.found p s)))

pub returns-in-Ok-clause-left : goal.returns-in-Ok-clause-left
returns-in-Ok-clause-left c e h = absurd (no_error c.in-Ok.left (spec.code_of e) (c.in-Ok.ensures.fault e h))

pub returns-in-Ok-clause-right : goal.returns-in-Ok-clause-right
returns-in-Ok-clause-right c p e s h = c.write_same_origin_of.ensures.refused e h

pub returns-in-Err-clause-compared : goal.returns-in-Err-clause-compared
returns-in-Err-clause-compared c p q s s' = absurd (no_ok c.in-Err.code _ (c.in-Err.ensures.found p s))

pub returns-in-Err-clause-right : goal.returns-in-Err-clause-right
returns-in-Err-clause-right c p e s h = absurd (no_ok c.in-Err.code _ (c.in-Err.ensures.found p s))
