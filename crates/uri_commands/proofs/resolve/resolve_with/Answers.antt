use Rattle.std.proofs.Common.{ap, take}
use Rattle.uri_commands.proofs.OutputLemmas.{resolved}
use Rattle.uri_commands.proofs.resolve.resolve_with.Goals as goal

pub returns : goal.returns
returns g c =
    resolved c.args.base.now.parts c.in_ok-reference.reference.parts c.args.reference.now _ _ (g.O.Write.contents c.args.out.now)
    (g.O.Write.contents c.print_bytes.new.out) c.print_bytes.result c.in_ok-reference.ensures.found c.in_ok-len.ensures.text
    (ap (take c.in_ok-len.len) c.deref.ensures.value) c.print_bytes.ensures
