use Rattle.std.proofs.Common.{arith}
use Rattle.std.proofs.lemmas.Grind.{common_steps}
use Rattle.uri_commands.proofs.OutputLemmas.{parts_end, parts_next}
use Rattle.uri_commands.proofs.get.get_parts.Goals as goal

pub loop-part-preserved : goal.loop-part-preserved
loop-part-preserved g c =
    parts_next _ _ _ _ _ _ _ _ _ _ c.loop-part.invariant c.in_ok-write_all.ensures.bytes c.in_ok-write_part.ensures
    (grind (arith, common_steps))

pub returns : goal.returns
returns g c =
    parts_end c.args.line.now c.in_ok-reference.reference.parts _ _ _ _ _ c.args.parts.now _ c.in_ok-reference.ensures.found
    c.loop-part.invariant c.print_bytes.ensures
    (grind (arith, common_steps))
