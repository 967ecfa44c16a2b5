use Rattle.std.proofs.Common.{ap, subst}
use Rattle.uriparse.specs.Uri.{map_error}
use Rattle.uriparse.specs.PlaceKey.{base_prefix}
use Rattle.uriparse.specs.declared.uri.error.URIError.TheVariants.{NotURI}
use Rattle.uriparse_reference.specs.View.{Viewed}
use Rattle.uriparse_ffi.specs.Put.{IsPut}
use Rattle.uriparse_ffi.proofs.lemmas.TextLemmas.{no_error, no_ok, ok_is}
use Rattle.uriparse_ffi.proofs.place_keys.write_base_prefix.Goals as goal

pub returns-in-Ok-clause-written : goal.returns-in-Ok-clause-written
returns-in-Ok-clause-written c b s k =
    let same = ap (λ (v : Viewed). v.parts) (ok_is c.in-Ok.view _ (c.in-Ok.ensures.found b s k)) in
    subst (λ q. IsPut (base_prefix q) c.args.out.now c.put_base.new.out c.put_base.new.needed c.put_base.result) same c.put_base.ensures

pub returns-in-Ok-clause-relative : goal.returns-in-Ok-clause-relative
returns-in-Ok-clause-relative c p s k = absurd (no_error c.in-Ok.view NotURI (c.in-Ok.ensures.relative p s k))

pub returns-in-Ok-clause-refused : goal.returns-in-Ok-clause-refused
returns-in-Ok-clause-refused c e h = absurd (no_error c.in-Ok.view (map_error e) (c.in-Ok.ensures.fault e h))

pub returns-in-Err-clause-written : goal.returns-in-Err-clause-written
returns-in-Err-clause-written c p s k = absurd (no_ok c.in-Err.error _ (c.in-Err.ensures.found p s k))
