use Rattle.std.proofs.Common.{◌∙◌, sym, ap, subst}
use Rattle.uriparse_authority.specs.Authority as spec
use Rattle.uriparse_authority.specs.Authority.{AuthorityParts}
use Rattle.uriparse_authority.specs.Host as hosts
use Rattle.uriparse_authority.proofs.lemmas.authorities.SameTextLemmas.{host_spelled, with_port, without_port}
use Rattle.uriparse_authority.proofs.authority.Authority.is_printed.Goals as goal

pub is_printed_host-requires : goal.is_printed_host-requires
is_printed_host-requires c =
    let host = ap spec.cut_host c.split_userinfo.ensures.host_and_port in
    subst (λ (p : AuthorityParts). hosts.Spells c.split_port.result.0.now p.host) (sym c.self.view_is)
    (subst (λ t. hosts.Spells t c.args.self.now.host) (sym (c.split_port.ensures.host ∙ host)) (host_spelled c.args.text.now c.args.self.now c.requires))

pub returns-then-is_printed_port : goal.returns-then-is_printed_port
returns-then-is_printed_port c =
    with_port c.args.text.now c.args.self.now c.requires c.self.inside.port c.self.inside.host _ c.split_port.result.0.now
    (ap (λ (p : AuthorityParts). p.port) c.self.view_is) (ap (λ (p : AuthorityParts). p.host) c.self.view_is)
    (c.split_port.ensures.port ∙ ap spec.cut_port c.split_userinfo.ensures.host_and_port)
    (c.split_port.ensures.host ∙ ap spec.cut_host c.split_userinfo.ensures.host_and_port)
    c.is_printed_port.result c.is_printed_host.result c.is_printed_port.ensures c.if-is_printed_port.true c.is_printed_host.ensures

pub returns-else-is_printed_port : goal.returns-else-is_printed_port
returns-else-is_printed_port c =
    without_port c.args.text.now c.args.self.now c.requires c.self.inside.port c.self.inside.host _ c.split_port.result.0.now
    (ap (λ (p : AuthorityParts). p.port) c.self.view_is) (ap (λ (p : AuthorityParts). p.host) c.self.view_is)
    (c.split_port.ensures.port ∙ ap spec.cut_port c.split_userinfo.ensures.host_and_port)
    (c.split_port.ensures.host ∙ ap spec.cut_host c.split_userinfo.ensures.host_and_port)
    c.is_printed_port.result c.is_printed_port.ensures c.if-is_printed_port.false
