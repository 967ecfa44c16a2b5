use Rattle.std.proofs.Common.{take}
use Rattle.uri_commands.proofs.OutputLemmas.{WritingParts}
use Rattle.uri_commands.proofs.get.get_parts.Given as goal

abbrev pub invariant-loop-part : goal.invariant-loop-part
invariant-loop-part g l =
    WritingParts (g.O.Write.contents l.initial.out) (g.O.Write.contents l.out) l.reference.parts l.separator (take l.part-index l.parts)
