use Rattle.std.proofs.Common.{◌≡◌, length, rules, subst}
use Rattle.uriparse.specs.declared.uri.error.URIError.TheVariants.{NotURI}
use Rattle.uriparse.specs.Uri.{map_error}
use Rattle.uriparse_reference.specs.Into.{Writes}
use Rattle.uriparse_reference.specs.Reference.{print}
use Rattle.uriparse_reference.specs.Relate.{relative}
use Rattle.uriparse_reference.specs.View.{Viewed}
use Rattle.uriparse_ffi.proofs.lemmas.TextLemmas.{no_error, no_ok, ok_is, put_written}
use Rattle.uriparse_ffi.proofs.texts.write_relative_to.Goals as goal

pub returns-in-Ok-clause-written : goal.returns-in-Ok-clause-written
returns-in-Ok-clause-written c t s k =
    let room : length c.relativize_into.new.out ≡ length c.args.out.now = search rules in
    put_written (print (relative c.args.base.now.parts t)) c.args.out.now c.relativize_into.new.out c.relativize_into.result c.answer.new.needed c.answer.result
    (subst (λ (v : Viewed). Writes (print (relative c.args.base.now.parts v.parts)) c.relativize_into.result c.args.out.now c.relativize_into.new.out)
    (ok_is c.in-Ok.target _ (c.in-Ok.ensures.found t s k)) c.relativize_into.ensures) room c.answer.ensures.code c.answer.ensures.needed

pub returns-in-Ok-clause-relative : goal.returns-in-Ok-clause-relative
returns-in-Ok-clause-relative c t s k = absurd (no_error c.in-Ok.target NotURI (c.in-Ok.ensures.relative t s k))

pub returns-in-Ok-clause-refused : goal.returns-in-Ok-clause-refused
returns-in-Ok-clause-refused c e h = absurd (no_error c.in-Ok.target (map_error e) (c.in-Ok.ensures.fault e h))

pub returns-in-Err-clause-written : goal.returns-in-Err-clause-written
returns-in-Err-clause-written c t s k = absurd (no_ok c.in-Err.error _ (c.in-Err.ensures.found t s k))
