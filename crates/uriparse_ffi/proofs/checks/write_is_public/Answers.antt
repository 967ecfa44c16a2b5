use Rattle.std.proofs.Common.{refl, subst}
use Rattle.uriparse_reference.specs.View.{Viewed}
use Rattle.uriparse_ffi.specs.Checks.{IsPublicHost, Tells}
use Rattle.uriparse_ffi.specs.Code as spec
use Rattle.uriparse_ffi.proofs.lemmas.TextLemmas.{no_error, no_ok, ok_is}
use Rattle.uriparse_ffi.proofs.lemmas.CheckLemmas.{tells}
use Rattle.uriparse_ffi.proofs.checks.write_is_public.Goals as goal

pub returns-in-Ok-clause-checked : goal.returns-in-Ok-clause-checked
returns-in-Ok-clause-checked c p s = (
  refl,
  subst (λ (v : Viewed). Tells (IsPublicHost v.parts) c.truth_of.result) (ok_is c.in-Ok.view _ (c.in-Ok.ensures.found p s))
      (tells _ c.is_host_public.result c.truth_of.result c.is_host_public.ensures c.truth_of.ensures),
)

pub returns-in-Ok-clause-refused : goal.returns-in-Ok-clause-refused
returns-in-Ok-clause-refused c e h = absurd (no_error c.in-Ok.view (spec.code_of e) (c.in-Ok.ensures.fault e h))

pub returns-in-Err-clause-checked : goal.returns-in-Err-clause-checked
returns-in-Err-clause-checked c p s = absurd (no_ok c.in-Err.code _ (c.in-Err.ensures.found p s))
