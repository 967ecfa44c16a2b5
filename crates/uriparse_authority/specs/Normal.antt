-- Normal forms of hosts and authorities: RFC 3986, sections 3.2 and 6.2.2.
use Rattle.std.specs.Prelude.{◌≡◌, unwrap_or}
use Rattle.std.specs.Option.{option_map, option_or}
use Rattle.uriparse_text.specs.Canonical.{canonical, canonical_lowered}
use Rattle.uriparse_authority.specs.Authority.{AuthorityParts}
use Rattle.uriparse_authority.specs.declared.authority.normal.CanonicalCopies.{CanonicalCopies}
use Rattle.uriparse_authority.specs.declared.authority.host.Host.{Host}
use Rattle.uriparse_authority.specs.declared.authority.host.Host.TheVariants.{IPv4Address, IPv6Address, IPvFuture, RegisteredName}

-- the same host in canonical spelling; a name stays one, even where its text becomes an address's
abbrev pub canonical_host : Host → Host
canonical_host (IPv4Address a) = IPv4Address a
canonical_host (IPv6Address a) = IPv6Address a
canonical_host (IPvFuture f) = IPvFuture (canonical_lowered f)
canonical_host (RegisteredName n) = RegisteredName (canonical_lowered n)

-- the same authority, each part in canonical spelling
abbrev pub canonical_authority : AuthorityParts → AuthorityParts
canonical_authority p = record {
  username = option_map canonical p.username;
  password = option_map canonical p.password;
  host = canonical_host p.host;
  port = p.port;
}

-- a copy in its place, or the part if there is none, is the part in canonical spelling
pub record AreCanonicalCopies (copies : CanonicalCopies) (p : AuthorityParts) : Type 0 where
  pub username : option_or copies.username p.username ≡ option_map canonical p.username
  pub password : option_or copies.password p.password ≡ option_map canonical p.password
  pub host : unwrap_or copies.host p.host ≡ canonical_host p.host
