use Rattle.std.proofs.Common.{ap, ◌∙◌, rules}
use Rattle.std.specs.List.{list_all}
use Rattle.uriparse.specs.Class.TheVariants.{Segment}
use Rattle.uri_commands.specs.Json.{needs_no_json_escape}
use Rattle.uri_commands.proofs.JsonLemmas.{plain_in_class, writing_end, writing_next, writing_start}
use Rattle.uri_commands.proofs.json.write_segments.Goals as goal

pub write_plain-requires : goal.write_plain-requires
write_plain-requires g c = ap (list_all needs_no_json_escape) c.as_bytes.ensures.value ∙ plain_in_class Segment _ c.as_bytes.ensures.class

pub loop-segment-init : goal.loop-segment-init
loop-segment-init g c = search (rules, writing_start)

pub loop-segment-preserved : goal.loop-segment-preserved
loop-segment-preserved g c =
    search (
      rules,
      writing_next,
      c.loop-segment.invariant,
      c.in-Some.ensures.steps,
      c.as_bytes.ensures.value,
      c.in_ok-write_all.ensures.bytes,
      c.in_ok-write_plain.ensures,
    )

pub returns : goal.returns
returns g c = search (rules, writing_end, c.loop-segment.invariant, c.in-None.ensures.steps, c.write_all-2.ensures.bytes)
