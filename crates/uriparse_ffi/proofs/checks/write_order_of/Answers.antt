use Rattle.std.proofs.Common.{ap, refl, ◌∙◌, of_z, to_z, w32}
use Rattle.uriparse_reference.specs.Order.{reference_cmp}
use Rattle.uriparse_reference.specs.View.{Viewed}
use Rattle.uriparse_ffi.specs.Checks.{order_number}
use Rattle.uriparse_ffi.specs.Code as spec
use Rattle.uriparse_ffi.proofs.lemmas.CheckLemmas.{number_back}
use Rattle.uriparse_ffi.proofs.lemmas.TextLemmas.{no_error, no_ok, ok_is}
use Rattle.uriparse_ffi.proofs.checks.write_order_of.Goals as goal

pub returns-in-Ok-clause-compared : goal.returns-in-Ok-clause-compared
returns-in-Ok-clause-compared c q s =
    let same = ok_is c.in-Ok.right _ (c.in-Ok.ensures.found q s) in
    let order = c.cmp.ensures.parts ∙ ap (λ (v : Viewed). reference_cmp c.args.left.now.parts v.parts) same in
    (refl, ap (λ n. to_z w32 (of_z w32 n)) (c.number_of.ensures ∙ ap order_number order) ∙ number_back (reference_cmp c.args.left.now.parts q))

pub returns-in-Ok-clause-refused : goal.returns-in-Ok-clause-refused
returns-in-Ok-clause-refused c e h = absurd (no_error c.in-Ok.right (spec.code_of e) (c.in-Ok.ensures.fault e h))

pub returns-in-Err-clause-compared : goal.returns-in-Err-clause-compared
returns-in-Err-clause-compared c q s = absurd (no_ok c.in-Err.code _ (c.in-Err.ensures.found q s))
