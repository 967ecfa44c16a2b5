use Rattle.uriparse_authority.proofs.lemmas.hosts.HostLemmas.{same_ipv4, same_ipv6, same_future}
use Rattle.uriparse_authority.proofs.authority.host.HostPartialEq.eq.Goals as goal

pub returns-in-IPv4Address-IPv4Address : goal.returns-in-IPv4Address-IPv4Address
returns-in-IPv4Address-IPv4Address c =
    let both = c.in-IPv4Address-IPv4Address in
    let left = c.octets in
    let right = c.octets-in-IPv4Address-IPv4Address in
    same_ipv4 c.args.self.now c.args.other.now both.left both.right left.result right.result c.eq.result both.is-0 both.is-1 left.ensures.octets
    right.ensures.octets left.ensures.value right.ensures.value c.eq.ensures

pub returns-in-IPv6Address-IPv6Address : goal.returns-in-IPv6Address-IPv6Address
returns-in-IPv6Address-IPv6Address c =
    let both = c.in-IPv6Address-IPv6Address in
    let left = c.segments in
    let right = c.segments-in-IPv6Address-IPv6Address in
    same_ipv6 c.args.self.now c.args.other.now both.left both.right left.result right.result c.eq-in-IPv6Address-IPv6Address.result both.is-0 both.is-1
    left.ensures.segments right.ensures.segments left.ensures.value right.ensures.value c.eq-in-IPv6Address-IPv6Address.ensures

pub returns-in-IPvFuture-IPvFuture : goal.returns-in-IPvFuture-IPvFuture
returns-in-IPvFuture-IPvFuture c =
    let both = c.in-IPvFuture-IPvFuture in
    same_future c.args.self.now c.args.other.now both.left both.right c.eq-in-IPvFuture-IPvFuture.result both.is-0 both.is-1
    c.eq-in-IPvFuture-IPvFuture.ensures
