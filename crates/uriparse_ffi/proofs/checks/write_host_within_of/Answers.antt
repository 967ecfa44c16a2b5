use Rattle.std.proofs.Common.{refl, subst, ◌∙◌}
use Rattle.uriparse_ffi.specs.Checks.{IsHostWithin, Tells}
use Rattle.uriparse_ffi.proofs.lemmas.CheckLemmas.{tells}
use Rattle.uriparse_ffi.proofs.lemmas.TextLemmas.{ok_is}
use Rattle.uriparse_ffi.proofs.checks.write_host_within_of.Goals as goal

pub returns-in-Ok-clause-checked : goal.returns-in-Ok-clause-checked
returns-in-Ok-clause-checked c d h =
    let same = ok_is c.in-Ok.domain d (c.in-Ok.ensures ∙ h) in
    (refl, subst (λ x. Tells (IsHostWithin c.args.view.now.parts x) c.truth_of.result) same (tells _ _ _ c.is_host_within.ensures c.truth_of.ensures))
