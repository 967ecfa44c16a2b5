use Rattle.std.proofs.Common.{◌≡◌, ap, cond, length, rules, subst, true, ◌∙◌}
use Rattle.std.specs.Bool.{beq}
use Rattle.std.specs.Prelude.{Result, Ok, Err}
use Rattle.uriparse.specs.PlaceKey.{place_key}
use Rattle.uriparse.specs.declared.uri.error.URIError.{URIError}
use Rattle.uriparse.specs.declared.uri.error.URIError.TheVariants.{NotURI}
use Rattle.uriparse_reference.specs.Into.{Writes}
use Rattle.uriparse_reference.specs.View.{Viewed}
use Rattle.uriparse_ffi.proofs.lemmas.TextLemmas.{ok_is, put_written}
use Rattle.uriparse_ffi.proofs.place_keys.put_key.Goals as goal

pub returns-in-Ok : goal.returns-in-Ok
returns-in-Ok c =
    let room : length c.place_key_into.new.out ≡ length c.args.out.now = search rules in
    let same : c.in-Ok.uri ≡ c.args.view =
    ok_is c.in-Ok.uri c.args.view
    (c.in-Ok.ensures ∙ ap (λ v. cond {A = Result Viewed URIError} (beq v true) (Ok c.args.view) (Err NotURI)) c.requires) in
    put_written (place_key c.args.view.parts) c.args.out.now c.place_key_into.new.out c.place_key_into.result c.answer.new.needed c.answer.result
    (subst (λ (v : Viewed). Writes (place_key v.parts) c.place_key_into.result c.args.out.now c.place_key_into.new.out) same c.place_key_into.ensures) room
    c.answer.ensures.code c.answer.ensures.needed
