use Rattle.std.proofs.Common.{◌≡◌, length, ap, ◌∙◌, rules}
use Rattle.uriparse_reference.specs.Reference.{print}
use Rattle.uriparse_reference.specs.Target.{target}
use Rattle.uriparse_reference.specs.View.{Viewed}
use Rattle.uriparse_ffi.specs.Code as spec
use Rattle.uriparse_ffi.proofs.lemmas.TextLemmas.{no_error, no_ok, none_of, ok_is, put_refused, put_written, some_of}
use Rattle.uriparse_ffi.proofs.texts.write_target_of.Goals as goal

pub returns-in-Ok-clause-written : goal.returns-in-Ok-clause-written
returns-in-Ok-clause-written c r t s h =
    let room : length c.resolve_into.new.out ≡ length c.args.out.now = search rules in
    put_written (print t) c.args.out.now c.resolve_into.new.out c.resolve_into.result c.answer.new.needed c.answer.result
    (some_of _ t _ _ (c.resolve_into.ensures.target c.requires)
    (ap (λ (v : Viewed). target c.args.base.now.parts v.parts) (ok_is c.in-Ok.reference _ (c.in-Ok.ensures.found r s)) ∙ h)) room c.answer.ensures.code c.answer.ensures.needed

pub returns-in-Ok-clause-too_long : goal.returns-in-Ok-clause-too_long
returns-in-Ok-clause-too_long c r s h =
    put_refused c.args.out.now c.resolve_into.new.out c.resolve_into.result c.answer.new.needed c.answer.result
    (none_of _ _ _ (c.resolve_into.ensures.target c.requires)
    (ap (λ (v : Viewed). target c.args.base.now.parts v.parts) (ok_is c.in-Ok.reference _ (c.in-Ok.ensures.found r s)) ∙ h)) c.answer.ensures.code c.answer.ensures.needed

pub returns-in-Ok-clause-refused : goal.returns-in-Ok-clause-refused
returns-in-Ok-clause-refused c e h = absurd (no_error c.in-Ok.reference (spec.code_of e) (c.in-Ok.ensures.fault e h))

pub returns-in-Err-clause-written : goal.returns-in-Err-clause-written
returns-in-Err-clause-written c r t s h = absurd (no_ok c.in-Err.code _ (c.in-Err.ensures.found r s))

pub returns-in-Err-clause-too_long : goal.returns-in-Err-clause-too_long
returns-in-Err-clause-too_long c r s h = absurd (no_ok c.in-Err.code _ (c.in-Err.ensures.found r s))
