use Rattle.std.proofs.Common.{refl, sym, ap, ◌∙◌, w32}
use Rattle.std.proofs.Math.Facts.{sfits_lit, yes_ltb}
use Rattle.std.proofs.lemmas.Int.{to_z-of_z}
use Rattle.uriparse_reference.specs.Ports.{port_or_default}
use Rattle.uriparse_reference.specs.View.{Viewed}
use Rattle.uriparse_ffi.specs.Checks.{port_or_minus_one}
use Rattle.uriparse_ffi.specs.Code as spec
use Rattle.uriparse_ffi.proofs.lemmas.TextLemmas.{no_error, no_ok, ok_is}
use Rattle.uriparse_ffi.proofs.checks.write_port.Goals as goal

pub returns-in-Some-clause-found : goal.returns-in-Some-clause-found
returns-in-Some-clause-found c p s = (
  refl,
  to_z-of_z w32 c.from.result (sfits_lit (yes_ltb c.from.type_inv)) ∙ c.from.ensures
      ∙ ap port_or_minus_one (sym c.in-Some.is ∙ c.port_or_default.ensures ∙ ap (λ (v : Viewed). port_or_default v.parts) (ok_is c.in-Ok.view _ (c.in-Ok.ensures.found p s))),
)

pub returns-in-Some-clause-refused : goal.returns-in-Some-clause-refused
returns-in-Some-clause-refused c e h = absurd (no_error c.in-Ok.view (spec.code_of e) (c.in-Ok.ensures.fault e h))

pub returns-in-None-clause-found : goal.returns-in-None-clause-found
returns-in-None-clause-found c p s =
    (refl, ap port_or_minus_one (sym c.in-None.is ∙ c.port_or_default.ensures ∙ ap (λ (v : Viewed). port_or_default v.parts) (ok_is c.in-Ok.view _ (c.in-Ok.ensures.found p s))))

pub returns-in-None-clause-refused : goal.returns-in-None-clause-refused
returns-in-None-clause-refused c e h = absurd (no_error c.in-Ok.view (spec.code_of e) (c.in-Ok.ensures.fault e h))

pub returns-in-Err-clause-found : goal.returns-in-Err-clause-found
returns-in-Err-clause-found c p s = absurd (no_ok c.in-Err.code _ (c.in-Err.ensures.found p s))
