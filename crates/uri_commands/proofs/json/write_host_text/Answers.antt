use Rattle.std.proofs.Common.{ap, ◌∙◌, rules}
use Rattle.std.specs.List.{list_all}
use Rattle.uriparse.specs.Class.TheVariants.{Name}
use Rattle.uri_commands.specs.Json.{needs_no_json_escape}
use Rattle.uri_commands.proofs.JsonLemmas.{future_written, ipv4_written, ipv6_written, plain_in_class, plain_in_future}
use Rattle.uri_commands.proofs.json.write_host_text.Goals as goal

pub write_plain-requires : goal.write_plain-requires
write_plain-requires g c = ap (list_all needs_no_json_escape) c.as_bytes.ensures.value ∙ plain_in_future _ c.as_bytes.ensures.valid

pub write_plain-requires-in-RegisteredName : goal.write_plain-requires-in-RegisteredName
write_plain-requires-in-RegisteredName g c =
    ap (list_all needs_no_json_escape) c.as_bytes-in-RegisteredName.ensures.value
    ∙ plain_in_class Name _ c.as_bytes-in-RegisteredName.ensures.class

pub returns-in_ok-write_plain-in-IPvFuture : goal.returns-in_ok-write_plain-in-IPvFuture
returns-in_ok-write_plain-in-IPvFuture g c = search (rules, future_written)

pub returns-in-IPv4Address : goal.returns-in-IPv4Address
returns-in-IPv4Address g c = search (rules, ipv4_written)

pub returns-in-IPv6Address : goal.returns-in-IPv6Address
returns-in-IPv6Address g c = search (rules, ipv6_written)
