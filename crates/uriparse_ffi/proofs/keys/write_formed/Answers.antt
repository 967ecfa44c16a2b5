use Rattle.std.proofs.Common.{◌≡◌, length, subst, rules}
use Rattle.uriparse_reference.specs.Into.{Writes}
use Rattle.uriparse_reference.specs.View.{Viewed}
use Rattle.uriparse.specs.SortKey.{in_form, sort_key}
use Rattle.uriparse_ffi.specs.Code as spec
use Rattle.uriparse_ffi.proofs.lemmas.TextLemmas.{no_error, no_ok, ok_is, put_written}
use Rattle.uriparse_ffi.proofs.keys.write_formed.Goals as goal

pub returns-in-Ok-clause-written : goal.returns-in-Ok-clause-written
returns-in-Ok-clause-written c p s =
    let room : length c.sort_key_into.new.out ≡ length c.args.out.now = search rules in
    put_written (sort_key (in_form c.args.form p)) c.args.out.now c.sort_key_into.new.out c.sort_key_into.result c.answer.new.needed c.answer.result
    (subst (λ (v : Viewed). Writes (sort_key (in_form c.args.form v.parts)) c.sort_key_into.result c.args.out.now c.sort_key_into.new.out)
    (ok_is c.in-Ok.view _ (c.in-Ok.ensures.found p s)) c.sort_key_into.ensures) room c.answer.ensures.code c.answer.ensures.needed

pub returns-in-Ok-clause-refused : goal.returns-in-Ok-clause-refused
returns-in-Ok-clause-refused c e h = absurd (no_error c.in-Ok.view (spec.code_of e) (c.in-Ok.ensures.fault e h))

pub returns-in-Err-clause-written : goal.returns-in-Err-clause-written
returns-in-Err-clause-written c p s = absurd (no_ok c.in-Err.code _ (c.in-Err.ensures.found p s))
