use Rattle.uriparse_authority.proofs.lemmas.hosts.HostLemmas.{feeds_ipv4, feeds_ipv6, feeds_future}
use Rattle.uriparse_authority.proofs.authority.host.HostHash.hash.Goals as goal

pub returns-in-IPv4Address-clause-key : goal.returns-in-IPv4Address-clause-key
returns-in-IPv4Address-clause-key g c =
    feeds_ipv4 g.H.Hasher.write c.args.state.now c.write_u8.new.self c.hash.new.state c.args.self.now c.in-IPv4Address.address c.octets.result
    c.in-IPv4Address.is c.octets.ensures.octets c.octets.ensures.value c.write_u8.ensures c.hash.ensures

pub returns-in-IPv6Address-clause-key : goal.returns-in-IPv6Address-clause-key
returns-in-IPv6Address-clause-key g c =
    feeds_ipv6 g.H.Hasher.write c.args.state.now c.write_u8-in-IPv6Address.new.self c.hash-in-IPv6Address.new.state c.args.self.now c.in-IPv6Address.address
    c.segments.result
    c.in-IPv6Address.is c.segments.ensures.segments c.segments.ensures.value c.write_u8-in-IPv6Address.ensures c.hash-in-IPv6Address.ensures

pub returns-in-IPvFuture-clause-key : goal.returns-in-IPvFuture-clause-key
returns-in-IPvFuture-clause-key g c =
    feeds_future g.H.Hasher.write c.args.state.now c.write_u8-in-IPvFuture.new.self c.hash-in-IPvFuture.new.state c.args.self.now c.in-IPvFuture.address
    c.in-IPvFuture.is c.hash-in-IPvFuture.ensures.valid c.write_u8-in-IPvFuture.ensures c.hash-in-IPvFuture.ensures.fed
