-- What follows from the printed text of an authority.
use Rattle.std.proofs.Common.{◌≡◌, ◌⊎◌, ℕ, List, refl, sym, ap, ◌∙◌, subst, inl, inr}
use Rattle.uriparse_text.specs.Address.{IsSegments, SpellsIpv4, ipv4_text, ipv6_text}
use Rattle.uriparse_text.proofs.lemmas.addresses.ReadingLemmas.{SpellsIpv4-ipv4_text, SpellsIpv6-ipv6_text}
use Rattle.uriparse_text.proofs.lemmas.addresses.ByteLemmas.{IsIn-SpellsIpv4, SpellsIpv6-bytes}
use Rattle.uriparse_authority.specs.declared.authority.host.Host.{Host}
use Rattle.uriparse_authority.specs.declared.authority.host.Host.TheVariants.{IPv4Address, IPv6Address, IPvFuture, RegisteredName}
use Rattle.uriparse_authority.specs.Future.{IsFuture}
use Rattle.uriparse_authority.specs.Host as host
use Rattle.uriparse_authority.specs.Host.{OneHidesAddress}
use Rattle.uriparse_authority.specs.Authority.{AuthorityParts, Spells, Valid, ReadsBack, print, host_text}
use Rattle.uriparse_authority.proofs.lemmas.hosts.HostLemmas.{host_back, spelled_back, unbracketed, bracketed-injective, not_both}
use Rattle.uriparse_authority.proofs.lemmas.authorities.AuthorityLemmas.{back, print_cut}
use Rattle.uriparse_authority.proofs.lemmas.authorities.NormalLemmas.{host_same, one_printed}

-- ---- reading back

pub spelled_reads_back : (a : List ℕ) (p : AuthorityParts) → Spells a p → ReadsBack p
spelled_reads_back a p s = spelled_back s.host_text p.host s.is_host

pub plain_back : (p : AuthorityParts) → Valid p → (host.IsHiddenAddress p.host → ⊥) → Spells (print p) p
plain_back p v plain = back p v (host_back p.host v.is_host plain)

-- ---- equal printed texts

other_address : (a f : List ℕ) → IsSegments a → IsFuture f → ipv6_text a ≡ f → ⊥
other_address a f v is e =
    not_both (ipv6_text a) (SpellsIpv6-bytes (ipv6_text a) a (SpellsIpv6-ipv6_text a v)) (subst IsFuture (sym e) is)

-- hosts with one printed text are equal, or one of them holds as a name what the other holds as an IPv4 address
pub hosts_apart : (g h : Host) → host.Valid g → host.Valid h → host.text g ≡ host.text h → (g ≡ h) ⊎ OneHidesAddress g h
hosts_apart (IPv4Address a) (IPv4Address b) v w e = inl (host_same (IPv4Address a) (IPv4Address b) v w e refl)
hosts_apart (IPv6Address a) (IPv6Address b) v w e = inl (host_same (IPv6Address a) (IPv6Address b) v w e refl)
hosts_apart (IPvFuture f) (IPvFuture g) v w e = inl (host_same (IPvFuture f) (IPvFuture g) v w e refl)
hosts_apart (RegisteredName m) (RegisteredName n) v w e = inl (ap RegisteredName e)
hosts_apart (IPv4Address a) (RegisteredName n) v w e = inr (inr (subst (λ t. SpellsIpv4 t a) e (SpellsIpv4-ipv4_text a v)))
hosts_apart (RegisteredName m) (IPv4Address b) v w e = inr (inl (subst (λ t. SpellsIpv4 t b) (sym e) (SpellsIpv4-ipv4_text b w)))
hosts_apart (IPv4Address a) (IPv6Address b) v w e =
    absurd (unbracketed (ipv4_text a) (ipv6_text b) (IsIn-SpellsIpv4 (ipv4_text a) a (SpellsIpv4-ipv4_text a v)) e)
hosts_apart (IPv6Address a) (IPv4Address b) v w e =
    absurd (unbracketed (ipv4_text b) (ipv6_text a) (IsIn-SpellsIpv4 (ipv4_text b) b (SpellsIpv4-ipv4_text b w)) (sym e))
hosts_apart (IPv4Address a) (IPvFuture g) v w e =
    absurd (unbracketed (ipv4_text a) g (IsIn-SpellsIpv4 (ipv4_text a) a (SpellsIpv4-ipv4_text a v)) e)
hosts_apart (IPvFuture f) (IPv4Address b) v w e =
    absurd (unbracketed (ipv4_text b) f (IsIn-SpellsIpv4 (ipv4_text b) b (SpellsIpv4-ipv4_text b w)) (sym e))
hosts_apart (IPv6Address a) (IPvFuture g) v w e = absurd (other_address a g v w (bracketed-injective (ipv6_text a) g e))
hosts_apart (IPvFuture f) (IPv6Address b) v w e = absurd (other_address b f w v (bracketed-injective (ipv6_text b) f (sym e)))
hosts_apart (RegisteredName m) (IPv6Address b) v w e = absurd (unbracketed m (ipv6_text b) v e)
hosts_apart (RegisteredName m) (IPvFuture g) v w e = absurd (unbracketed m g v e)
hosts_apart (IPvFuture f) (RegisteredName n) v w e = absurd (unbracketed n f w (sym e))
hosts_apart (IPv6Address a) (RegisteredName n) v w e = absurd (unbracketed n (ipv6_text a) w (sym e))

pub printed_apart : (p q : AuthorityParts) → Valid p → Valid q → print p ≡ print q → (p ≡ q) ⊎ OneHidesAddress p.host q.host
printed_apart p q v w e = by_hosts (hosts_apart p.host q.host v.is_host w.is_host (sym (print_cut p v).host ∙ ap host_text e ∙ (print_cut q w).host))
  where
    by_hosts : (p.host ≡ q.host) ⊎ OneHidesAddress p.host q.host → (p ≡ q) ⊎ OneHidesAddress p.host q.host
    by_hosts (inl same) = inl (one_printed p q v w e (ap host.kind same))
    by_hosts (inr apart) = inr apart
