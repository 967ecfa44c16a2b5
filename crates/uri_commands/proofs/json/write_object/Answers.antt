use Rattle.std.proofs.Common.{◌≡◌, ap, ◌∙◌, rules}
use Rattle.std.specs.List.{list_all}
use Rattle.std.specs.Option.{option_copied}
use Rattle.uriparse.specs.Reference.{host_of}
use Rattle.uri_commands.specs.Json.{needs_no_json_escape}
use Rattle.uri_commands.proofs.JsonLemmas.{object_written, plain_spelled}
use Rattle.uri_commands.proofs.json.write_object.Goals as goal

pub write_text-requires : goal.write_text-requires
write_text-requires g c =
    let text : c.as_bytes.result.now ≡ c.args.reference.now.text = search rules in
    ap (list_all needs_no_json_escape) text ∙ plain_spelled _ _ c.as_str.ensures.spelled

pub returns : goal.returns
returns g c =
    let reference = c.args.reference.now in
    let text : c.as_bytes.result.now ≡ reference.text = search rules in
    let host : option_copied c.as_ref.result ≡ host_of reference.parts = search rules in
    let first = c.in_ok-write_text.ensures in
    search (
      object_written reference.text reference.parts,
      text,
      host,
      c.port.ensures,
      c.segments.ensures.value,
      first,
      c.in_ok-write_scheme_and_userinfo.ensures,
      c.in_ok-write_host.ensures,
      c.in_ok-write_port.ensures,
      c.in_ok-write_back.ensures,
      c.in_ok-write_segments.ensures,
      c.write_all.ensures.bytes,
    )
