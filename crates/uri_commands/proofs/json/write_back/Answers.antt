use Rattle.std.proofs.Common.{◌≡◌, Some, rules}
use Rattle.std.specs.Prelude.{codes}
use Rattle.std.specs.Option.{option_copied}
use Rattle.uriparse.specs.Path.{text}
use Rattle.uri_commands.proofs.JsonLemmas.{members_written}
use Rattle.uri_commands.proofs.json.write_back.Goals as goal

pub returns : goal.returns
returns g c =
    let parts = c.args.reference.now.parts in
    let path : option_copied (Some c.as_bytes.result) ≡ Some (text parts.path) = search rules in
    let query : option_copied c.text_bytes-query.result ≡ parts.query = search rules in
    let fragment : option_copied c.text_bytes-fragment.result ≡ parts.fragment = search rules in
    let written = members_written (codes "path") (codes "query") (codes "fragment") (Some (text parts.path)) parts.query parts.fragment in
    search (written, path, query, fragment, c.in_ok-write_member.ensures, c.in_ok-write_member-2.ensures, c.write_member-3.ensures)
