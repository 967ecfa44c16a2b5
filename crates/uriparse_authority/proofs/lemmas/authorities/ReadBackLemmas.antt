-- The printed text of each valid authority spells one: another, where a name is printed that spells an IPv4 address.
use Rattle.std.proofs.Common.{◌≡◌, ℕ, List, Option, Some, None, refl, sym, ◌∙◌}
use Rattle.std.specs.Option.{option_map}
use Rattle.uriparse_text.specs.Address.{ipv4_reading}
use Rattle.uriparse_text.proofs.lemmas.addresses.ReadingLemmas.{ipv4_reading-spelled, ipv4_reading-found}
use Rattle.uriparse_authority.specs.Authority.{AuthorityParts, Spells, Valid, print}
use Rattle.uriparse_authority.specs.Host as host
use Rattle.uriparse_authority.specs.Port as port
use Rattle.uriparse_authority.specs.declared.authority.host.Host.{Host}
use Rattle.uriparse_authority.specs.declared.authority.host.Host.TheVariants.{IPv4Address, IPv6Address, IPvFuture, RegisteredName}
use Rattle.uriparse_authority.proofs.lemmas.authorities.AuthorityLemmas.{port_back}
use Rattle.uriparse_authority.proofs.lemmas.hosts.HostLemmas.{host_back}

host_printed : (h : Host) → host.Valid h → (g : Host) × host.Spells (host.text h) g
host_printed (IPv4Address a) v = (IPv4Address a, host_back (IPv4Address a) v (λ x. x))
host_printed (IPv6Address a) v = (IPv6Address a, host_back (IPv6Address a) v (λ x. x))
host_printed (IPvFuture f) v = (IPvFuture f, host_back (IPvFuture f) v (λ x. x))
host_printed (RegisteredName n) v = by_reading (ipv4_reading n) refl
  where
    by_reading : (o : Option (List ℕ)) → ipv4_reading n ≡ o → (g : Host) × host.Spells n g
    by_reading None e = (RegisteredName n, (refl, v, λ a s. let x : None ≡ Some a = sym e ∙ ipv4_reading-spelled n a s in absurd (cc)))
    by_reading (Some a) e = (IPv4Address a, ipv4_reading-found n a e)

pub authority_printed : (p : AuthorityParts) → Valid p → (q : AuthorityParts) × Spells (print p) q
authority_printed p v =
    let g = host_printed p.host v.is_host in (
      record { username = p.username; password = p.password; host = g.0; port = p.port },
      record {
        host_text = host.text p.host;
        port_text = option_map port.text p.port;
        whole = refl;
        is_username = v.is_username;
        is_password = v.is_password;
        paired = v.paired;
        is_host = g.1;
        is_port = port_back p.port v.is_port;
      },
    )
