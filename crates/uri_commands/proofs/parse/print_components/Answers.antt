use Rattle.std.proofs.Common.{◌≡◌, Ok, rules}
use Rattle.std.specs.Prelude.{codes, decimal}
use Rattle.std.specs.Option.{option_copied}
use Rattle.uri_commands.proofs.ComponentLemmas.{followed, host_line, text_line, value_line}
use Rattle.uri_commands.proofs.parse.print_components.Goals as goal

pub returns : goal.returns
returns g c =
    let a = c.args.authority.now in
    let port : option_copied c.as_ref.result ≡ a.port = search rules in
    let username = text_line (codes "username") c.username.result a.username _ _ (Ok tt) c.in_ok-print_part.ensures c.username.ensures in
    let password = text_line (codes "password") c.password.result a.password _ _ (Ok tt) c.in_ok-print_part-2.ensures c.password.ensures in
    let host = host_line c.host_name.result.now c.host-host.result.now a.host _ _ c.host_name.ensures c.host-host.ensures.value
    c.in_ok-print_part-3.ensures in
    let last = value_line decimal (codes "port") c.as_ref.result a.port _ _ c.print_part-4.result c.print_part-4.ensures port in
    followed _ _ _ _ _ _ username (followed _ _ _ _ _ _ password (followed _ _ _ _ _ _ host last))
