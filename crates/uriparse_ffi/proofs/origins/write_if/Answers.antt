use Rattle.std.proofs.Common.{◌≡◌, length, subst, sym, rules, ◌∙◌}
use Rattle.uriparse_reference.specs.Into.{Writes}
use Rattle.uriparse.specs.Origin.{text}
use Rattle.uriparse.specs.declared.uri.origin.Origin.{Origin}
use Rattle.uriparse_ffi.proofs.lemmas.TextLemmas.{put_written, some_is}
use Rattle.uriparse_ffi.proofs.origins.write_if.Goals as goal

pub returns-in-Some-clause-written : goal.returns-in-Some-clause-written
returns-in-Some-clause-written c o h =
    let room : length c.write_into.new.out ≡ length c.args.out.now = search rules in
    put_written (text o) c.args.out.now c.write_into.new.out c.write_into.result c.answer.new.needed c.answer.result
    (subst (λ (x : Origin). Writes (text x) c.write_into.result c.args.out.now c.write_into.new.out) (some_is _ _ (sym c.in-Some.is ∙ h)) c.write_into.ensures)
    room c.answer.ensures.code c.answer.ensures.needed
