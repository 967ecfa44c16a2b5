-- Hosts that lead anywhere on the Internet, as far as their text says: RFC 6890, and RFC 3986, section 7.4.
use Rattle.std.specs.Prelude.{◌≡◌, false, Option, Some, None}
use Rattle.uriparse_text.specs.Reach.{ipv4_reach, ipv6_reach}
use Rattle.uriparse_text.specs.declared.address.IpAddr.{IpAddr}
use Rattle.uriparse_text.specs.declared.address.IpAddr.TheVariants as ip
use Rattle.uriparse_text.specs.declared.address.reach.Reach.TheVariants.{Global}
use Rattle.uriparse_authority.specs.Host.{is_empty}
use Rattle.uriparse_authority.specs.Within.{has_escapes, hides_address, may_be_numeric}
use Rattle.uriparse_authority.specs.declared.authority.host.Host.{Host}
use Rattle.uriparse_authority.specs.declared.authority.host.Host.TheVariants.{IPv4Address, IPv6Address, IPvFuture, RegisteredName}

-- the address that a host is, of either kind
abbrev pub address_of : Host → Option IpAddr
address_of (IPv4Address a) = Some (ip.V4 a)
address_of (IPv6Address a) = Some (ip.V6 a)
address_of (IPvFuture f) = None
address_of (RegisteredName n) = None

-- a name that isn't empty, that no reader decodes to another one, and that none takes for an address
pub record IsPublicName (h : Host) : Type 0 where
  pub some : is_empty h ≡ false
  pub unescaped : has_escapes h ≡ false
  pub plain : hides_address h ≡ false
  pub not_numeric : may_be_numeric h ≡ false

-- a global address, or such a name
abbrev pub IsPublic : Host → Type 0
IsPublic (IPv4Address a) = ipv4_reach a ≡ Global
IsPublic (IPv6Address a) = ipv6_reach a ≡ Global
IsPublic (IPvFuture f) = ⊥
IsPublic (RegisteredName n) = IsPublicName (RegisteredName n)
