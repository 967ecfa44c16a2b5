use Rattle.uriparse_authority.proofs.lemmas.authorities.LengthLemmas.{length-ipv6_host}
use Rattle.uriparse_authority.proofs.lemmas.authorities.SameTextLemmas.{other_host}
use Rattle.std.proofs.Common.{refl}
use Rattle.uriparse_authority.proofs.authority.printed.is_printed_host.Goals as goal

pub is_short_host-requires : goal.is_short_host-requires
is_short_host-requires c = length-ipv6_host c.args.host.now _ c.in-IPv6Address.is c.segments-segments.ensures.segments

pub returns-in_default : goal.returns-in_default
returns-in_default c = ((λ h. other_host c.args.text.now c.args.host.now c.requires c.in_default.not-IPv6Address), (λ h. refl))
