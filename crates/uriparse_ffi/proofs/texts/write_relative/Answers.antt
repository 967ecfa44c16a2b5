use Rattle.std.proofs.Common.{ap, subst}
use Rattle.uriparse.specs.declared.uri.error.URIError.TheVariants.{NotURI}
use Rattle.uriparse.specs.Uri.{map_error}
use Rattle.uriparse_reference.specs.View.{Viewed}
use Rattle.uriparse_ffi.specs.Put.{IsRelativePut}
use Rattle.uriparse_ffi.proofs.lemmas.TextLemmas.{no_error, no_ok, ok_is}
use Rattle.uriparse_ffi.proofs.texts.write_relative.Goals as goal

pub returns-in-Ok-clause-written : goal.returns-in-Ok-clause-written
returns-in-Ok-clause-written c b t s k s' k' =
    let same = ap (λ (v : Viewed). v.parts) (ok_is c.in-Ok.base _ (c.in-Ok.ensures.found b s k)) in
    subst (λ p. IsRelativePut p t c.args.out.now c.write_relative_to.new.out c.write_relative_to.new.needed c.write_relative_to.result) same (c.write_relative_to.ensures.written t s' k')

pub returns-in-Ok-clause-relative_base : goal.returns-in-Ok-clause-relative_base
returns-in-Ok-clause-relative_base c b s k = absurd (no_error c.in-Ok.base NotURI (c.in-Ok.ensures.relative b s k))

pub returns-in-Ok-clause-base : goal.returns-in-Ok-clause-base
returns-in-Ok-clause-base c e h = absurd (no_error c.in-Ok.base (map_error e) (c.in-Ok.ensures.fault e h))

pub returns-in-Ok-clause-relative : goal.returns-in-Ok-clause-relative
returns-in-Ok-clause-relative c b t s k s' k' = c.write_relative_to.ensures.relative t s' k'

pub returns-in-Ok-clause-refused : goal.returns-in-Ok-clause-refused
returns-in-Ok-clause-refused c b e s k h = c.write_relative_to.ensures.refused e h

pub returns-in-Err-clause-written : goal.returns-in-Err-clause-written
returns-in-Err-clause-written c b t s k s' k' = absurd (no_ok c.in-Err.error _ (c.in-Err.ensures.found b s k))

pub returns-in-Err-clause-relative : goal.returns-in-Err-clause-relative
returns-in-Err-clause-relative c b t s k s' k' = absurd (no_ok c.in-Err.error _ (c.in-Err.ensures.found b s k))

pub returns-in-Err-clause-refused : goal.returns-in-Err-clause-refused
returns-in-Err-clause-refused c b e s k h = absurd (no_ok c.in-Err.error _ (c.in-Err.ensures.found b s k))
