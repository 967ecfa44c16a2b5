use Rattle.std.proofs.Common.{ap, subst}
use Rattle.uriparse_reference.specs.View.{Viewed}
use Rattle.uriparse_ffi.specs.Checks.{Tells}
use Rattle.uriparse_ffi.specs.Code as spec
use Rattle.uriparse_ffi.specs.Domains.{IsWithinOne, domains}
use Rattle.uriparse_ffi.proofs.lemmas.TextLemmas.{no_error, no_ok, ok_is}
use Rattle.uriparse_ffi.proofs.domains.write_within_any.Goals as goal

pub returns-in-Ok-clause-checked : goal.returns-in-Ok-clause-checked
returns-in-Ok-clause-checked c p s h =
    let same = ap (λ (v : Viewed). v.parts) (ok_is c.in-Ok.view _ (c.in-Ok.ensures.found p s)) in
    let written = c.write_within_any_of.ensures.checked h in
    (written.0, subst (λ q. Tells (IsWithinOne q (domains c.args.domains.now)) c.write_within_any_of.new.within) same written.1)

pub returns-in-Ok-clause-refused : goal.returns-in-Ok-clause-refused
returns-in-Ok-clause-refused c e h = absurd (no_error c.in-Ok.view (spec.code_of e) (c.in-Ok.ensures.fault e h))

pub returns-in-Ok-clause-domain : goal.returns-in-Ok-clause-domain
returns-in-Ok-clause-domain c p e s h = c.write_within_any_of.ensures.refused e h

pub returns-in-Err-clause-checked : goal.returns-in-Err-clause-checked
returns-in-Err-clause-checked c p s h = absurd (no_ok c.in-Err.code _ (c.in-Err.ensures.found p s))

pub returns-in-Err-clause-domain : goal.returns-in-Err-clause-domain
returns-in-Err-clause-domain c p e s h = absurd (no_ok c.in-Err.code _ (c.in-Err.ensures.found p s))
