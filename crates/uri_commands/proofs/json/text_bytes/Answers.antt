use Rattle.std.proofs.Common.{ap, ◌∙◌}
use Rattle.std.specs.List.{list_all}
use Rattle.uri_commands.specs.Json.{needs_no_json_escape}
use Rattle.uri_commands.proofs.JsonLemmas.{plain_in_class}
use Rattle.uri_commands.proofs.json.text_bytes.Goals as goal

pub returns-in-Some-clause-plain : goal.returns-in-Some-clause-plain
returns-in-Some-clause-plain g c =
    ap (list_all needs_no_json_escape) c.as_bytes.ensures.value ∙ plain_in_class g.K.TextKind.class _ c.as_bytes.ensures.class
