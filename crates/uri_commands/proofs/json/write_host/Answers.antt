use Rattle.std.proofs.Common.{◌≡◌, None, Some, rules}
use Rattle.std.specs.Option.{option_copied}
use Rattle.uriparse.specs.Host.{kind}
use Rattle.uri_commands.specs.Json.{kind_name}
use Rattle.uri_commands.proofs.JsonLemmas.{host_written, no_host_written}
use Rattle.uri_commands.proofs.json.write_host.Goals as goal

pub returns-in_ok-write_plain-in-Some : goal.returns-in_ok-write_plain-in-Some
returns-in_ok-write_plain-in-Some g c =
    let host : option_copied c.args.host ≡ Some c.in-Some.host.now = search rules in
    let name : c.as_bytes.result.now ≡ kind_name (kind c.in-Some.host.now) = search rules in
    search (
      host_written,
      host,
      name,
      c.in_ok-write_all-in-Some.ensures.bytes,
      c.in_ok-write_host_text-in-Some.ensures,
      c.in_ok-write_all-in-Some-2.ensures.bytes,
      c.in_ok-write_plain-in-Some.ensures,
      c.write_all-in-Some-2.ensures.bytes,
    )

pub returns-in-None : goal.returns-in-None
returns-in-None g c =
    let none : option_copied c.args.host ≡ None = search rules in
    search (no_host_written, none, c.write_all-in-None.ensures.bytes)
