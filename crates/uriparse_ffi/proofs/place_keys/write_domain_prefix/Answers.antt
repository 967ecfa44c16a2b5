use Rattle.std.proofs.Common.{◌≡◌, length, rules, subst, ◌∙◌}
use Rattle.uriparse.specs.PlaceKey.{domain_prefix}
use Rattle.uriparse_reference.specs.Into.{Writes}
use Rattle.uriparse_ffi.proofs.lemmas.TextLemmas.{ok_is, put_written}
use Rattle.uriparse_ffi.proofs.place_keys.write_domain_prefix.Goals as goal

pub returns-in-Ok-clause-written : goal.returns-in-Ok-clause-written
returns-in-Ok-clause-written c d h =
    let room : length c.domain_prefix_into.new.out ≡ length c.args.out.now = search rules in
    put_written (domain_prefix d) c.args.out.now c.domain_prefix_into.new.out c.domain_prefix_into.result c.answer.new.needed c.answer.result
    (subst (λ x. Writes (domain_prefix x) c.domain_prefix_into.result c.args.out.now c.domain_prefix_into.new.out)
    (ok_is c.in-Ok.domain d (c.in-Ok.ensures ∙ h)) c.domain_prefix_into.ensures) room c.answer.ensures.code c.answer.ensures.needed
