use Rattle.std.proofs.Common.{◌≡◌, rules}
use Rattle.std.specs.Prelude.{codes}
use Rattle.std.specs.Option.{option_copied, option_map}
use Rattle.uriparse.specs.Scheme as scheme
use Rattle.uriparse.specs.Reference.{password_of, username_of}
use Rattle.uri_commands.proofs.JsonLemmas.{members_written}
use Rattle.uri_commands.proofs.json.write_scheme_and_userinfo.Goals as goal

pub returns : goal.returns
returns g c =
    let parts = c.args.reference.now.parts in
    let named : option_copied c.scheme_bytes-scheme.result ≡ option_map scheme.text parts.scheme = search rules in
    let username : option_copied c.text_bytes-username.result ≡ username_of parts = search rules in
    let password : option_copied c.text_bytes-password.result ≡ password_of parts = search rules in
    let written = members_written (codes "scheme") (codes "username") (codes "password") (option_map scheme.text parts.scheme)
    (username_of parts) (password_of parts) in
    search (written, named, username, password, c.in_ok-write_member.ensures, c.in_ok-write_member-2.ensures, c.write_member-3.ensures)
