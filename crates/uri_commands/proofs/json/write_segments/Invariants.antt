use Rattle.uri_commands.specs.Json.{followers, segment_members}
use Rattle.uri_commands.proofs.JsonLemmas.{Writing}
use Rattle.uri_commands.proofs.json.write_segments.Given as goal

abbrev pub invariant-loop-segment : goal.invariant-loop-segment
invariant-loop-segment g l =
    Writing (g.O.Write.contents l.initial.out) (g.O.Write.contents l.out) l.separator l.segment-iterator
    (followers (segment_members l.fn.segments))
