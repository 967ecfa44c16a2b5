use Rattle.uriparse_authority.proofs.lemmas.authorities.LengthLemmas.{length-ipv4_host, length-ipv6_host}
use Rattle.uriparse_authority.proofs.authority.host.Host.most_bytes.Goals as goal

pub returns-in-IPv4Address : goal.returns-in-IPv4Address
returns-in-IPv4Address c = length-ipv4_host c.args.self.now _ c.in-IPv4Address.is c.octets.ensures.octets

pub returns-in-IPv6Address : goal.returns-in-IPv6Address
returns-in-IPv6Address c = length-ipv6_host c.args.self.now _ c.in-IPv6Address.is c.segments.ensures.segments
