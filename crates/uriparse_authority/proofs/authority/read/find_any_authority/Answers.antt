use Rattle.std.proofs.Common.{rules, ◌≡◌, Err, Ok, unwrap_or, [], sym, ap, ◌∙◌}
use Rattle.uriparse_authority.specs.Authority.{cut_host, port_text, userinfo_text}
use Rattle.uriparse_authority.specs.Port as port
use Rattle.uriparse_authority.proofs.lemmas.authorities.AuthorityLemmas.{accepted, both_read, paired, refused_host, refused_port, refused_userinfo}
use Rattle.uriparse_authority.proofs.authority.read.find_any_authority.Goals as goal

pub returns-in_err-username : goal.returns-in_err-username
returns-in_err-username c =
    let e = c.in_err-username.field-0.0 in
    let answered : c.from_residual.result ≡ Err e = search rules in
    answered ∙ sym (refused_userinfo c.args.bytes.now _ c.split_userinfo.ensures.userinfo e (sym c.in_err-username.ensures))

pub returns-in_err-host : goal.returns-in_err-host
returns-in_err-host c =
    let u = c.in_ok-username.username in
    let w = c.in_ok-username.password in
    let is_host = c.split_port.ensures.host ∙ ap cut_host c.split_userinfo.ensures.host_and_port in
    rw (refused_host c.args.bytes.now _ c.split_userinfo.ensures.userinfo u w (sym c.in_ok-username.ensures) _ is_host _ (sym c.in_err-host.ensures))
    (search rules)

pub returns-in_err-port : goal.returns-in_err-port
returns-in_err-port c =
    let text = c.args.bytes.now in
    let u = c.in_ok-username.username in
    let w = c.in_ok-username.password in
    let is_host = c.split_port.ensures.host ∙ ap cut_host c.split_userinfo.ensures.host_and_port in
    let port_read : port.reading (unwrap_or (port_text text) []) ≡ Err c.in_err-port.field-0.0 = search rules in
    rw (refused_port text _ c.split_userinfo.ensures.userinfo u w (sym c.in_ok-username.ensures) _ is_host _ (sym c.in_ok-host.ensures) _ port_read)
    (search rules)

pub returns : goal.returns
returns c =
    let text = c.args.bytes.now in
    let u = c.in_ok-username.username in
    let w = c.in_ok-username.password in
    let is_host = c.split_port.ensures.host ∙ ap cut_host c.split_userinfo.ensures.host_and_port in
    let port_read : port.reading (unwrap_or (port_text text) []) ≡ Ok c.in_ok-port.port = search rules in
    ap Ok c.found_authority.ensures
    ∙ sym (accepted text _ c.split_userinfo.ensures.userinfo u w (sym c.in_ok-username.ensures) _ is_host _ (sym c.in_ok-host.ensures) _ port_read)

pub found_authority-requires : goal.found_authority-requires
found_authority-requires c =
    let text = c.args.bytes.now in
    let u = c.in_ok-username.username in
    let w = c.in_ok-username.password in
    let is_host = c.split_port.ensures.host ∙ ap cut_host c.split_userinfo.ensures.host_and_port in
    let both = both_read text _ c.split_userinfo.ensures.userinfo u w (sym c.in_ok-username.ensures) _ is_host in
    paired (userinfo_text text) u w both.0 both.1
