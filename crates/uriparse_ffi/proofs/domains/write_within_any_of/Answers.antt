use Rattle.std.proofs.Common.{◌+◌, refl, sym, ap, ◌∙◌}
use Rattle.uriparse_ffi.specs.Code as spec
use Rattle.uriparse_ffi.proofs.lemmas.CheckLemmas.{tells}
use Rattle.uriparse_ffi.proofs.lemmas.TextLemmas.{no_some, some_is}
use Rattle.uriparse_ffi.proofs.domains.write_within_any_of.Goals as goal

pub returns-in-Ok-clause-checked : goal.returns-in-Ok-clause-checked
returns-in-Ok-clause-checked c h = (refl, tells _ _ _ c.in-Ok.ensures.1 c.truth_of.ensures)

pub returns-in-Ok-clause-refused : goal.returns-in-Ok-clause-refused
returns-in-Ok-clause-refused c e h = absurd (no_some e (sym h ∙ c.in-Ok.ensures.0))

pub returns-in-Err-clause-checked : goal.returns-in-Err-clause-checked
returns-in-Err-clause-checked c h = absurd (no_some c.in-Err.error (sym c.in-Err.ensures ∙ h))

pub returns-in-Err-clause-refused : goal.returns-in-Err-clause-refused
returns-in-Err-clause-refused c e h =
    (ap (λ n. spec.in_base + n) (c.of_host.ensures.code ∙ ap spec.host_code (some_is c.in-Err.error e (sym c.in-Err.ensures ∙ h))), refl)
