-- The bytes of an address.
use Rattle.std.specs.Prelude.{ℕ, List, Option, Some, None}
use Rattle.std.specs.Net.Addr.{octets_of}
use Rattle.uriparse_authority.specs.declared.authority.host.Host.{Host}
use Rattle.uriparse_authority.specs.declared.authority.host.Host.TheVariants.{IPv4Address, IPv6Address, IPvFuture, RegisteredName}

-- the four bytes of an IPv4 address, and the sixteen of an IPv6 address, each segment's higher byte first
abbrev pub address_bytes : Host → Option (List ℕ)
address_bytes (IPv4Address octets) = Some octets
address_bytes (IPv6Address segments) = Some (octets_of segments)
address_bytes (IPvFuture f) = None
address_bytes (RegisteredName n) = None
