use Rattle.std.proofs.Common.{refl, ap, ◌∙◌}
use Rattle.uriparse.specs.Origin.{have_same_origin}
use Rattle.uriparse_reference.specs.View.{Viewed}
use Rattle.uriparse_ffi.specs.Code as spec
use Rattle.uriparse_ffi.specs.Code.{truth}
use Rattle.uriparse_ffi.proofs.lemmas.TextLemmas.{no_error, no_ok, ok_is}
use Rattle.uriparse_ffi.proofs.origins.write_same_origin_of.Goals as goal

pub returns-in-Ok-clause-compared : goal.returns-in-Ok-clause-compared
returns-in-Ok-clause-compared c q s = (
  refl,
  c.truth_of.ensures ∙ ap truth c.share_origin.ensures
      ∙ ap (λ (v : Viewed). truth (have_same_origin c.args.left.parts v.parts)) (ok_is c.in-Ok.right _ (c.in-Ok.ensures.found q s)),
)

pub returns-in-Ok-clause-refused : goal.returns-in-Ok-clause-refused
returns-in-Ok-clause-refused c e h = absurd (no_error c.in-Ok.right (spec.code_of e) (c.in-Ok.ensures.fault e h))

pub returns-in-Err-clause-compared : goal.returns-in-Err-clause-compared
returns-in-Err-clause-compared c q s = absurd (no_ok c.in-Err.code _ (c.in-Err.ensures.found q s))
