-- The order of hosts and of authorities.
use Rattle.std.proofs.Common.{◌≡◌, ℕ, List, ◌∷◌, Option, Some, None, refl, sym, ap, ◌∙◌}
use Rattle.std.specs.Cmp.{unsigned_ties}
use Rattle.std.specs.Cmp.Lexicographic.{slice_cmp}
use Rattle.std.specs.Option.{option_cmp, option_map}
use Rattle.std.specs.Ordering.{is_eq, nat_cmp, ordering_then}
use Rattle.std.specs.declared.cmp.Ordering.{Ordering}
use Rattle.std.specs.declared.cmp.Ordering.TheVariants.{Less, Equal, Greater}
use Rattle.std.proofs.lemmas.Map.Text.{is_eq-slice_cmp}
use Rattle.std.proofs.lemmas.Slice.Eq.{bytes_eq-Decides}
use Rattle.std.proofs.lemmas.Bool.{eqb-true}
use Rattle.uriparse_text.specs.Address.{ipv4_text, ipv6_text}
use Rattle.uriparse_text.specs.Canonical.{canonical, canonical_lowered}
use Rattle.uriparse_text.proofs.lemmas.addresses.ReadingLemmas.{SpellsIpv4-ipv4_text, SpellsIpv6-ipv6_text}
use Rattle.uriparse_authority.specs.declared.authority.host.Host.{Host}
use Rattle.uriparse_authority.specs.declared.authority.host.Host.TheVariants.{IPv4Address, IPv6Address, IPvFuture, RegisteredName}
use Rattle.uriparse_authority.specs.Host as host
use Rattle.uriparse_authority.specs.Port as port
use Rattle.uriparse_authority.specs.Authority.{AuthorityParts, Valid, canonical_text, key, kind}
use Rattle.uriparse_authority.specs.Authority.{password_text, host_text, port_text}
use Rattle.uriparse_authority.specs.KeyOrder.{by_key}
use Rattle.uriparse_authority.specs.Order.{authority_key_cmp, host_key_cmp, host_rank, host_rank_in, host_rank_read, pieces_rank, rank, rank_cmp, rank_in}
use Rattle.uriparse_authority.proofs.lemmas.authorities.AuthorityLemmas.{IsCutInto, canonical_cut, port_value}
use Rattle.uriparse_authority.proofs.lemmas.hosts.FutureLemmas.{IsFuture-canonical_lowered, IsFuture-twice}
use Rattle.uriparse_authority.proofs.lemmas.hosts.HostLemmas.{host_exact}

-- ---- equal ones

pub same_lists : (xs ys : List ℕ) → slice_cmp nat_cmp xs ys ≡ Equal → xs ≡ ys
same_lists xs ys e = (bytes_eq-Decides xs ys).0 (sym (is_eq-slice_cmp xs ys) ∙ ap is_eq e)

pub both_equal : (a b : Ordering) → ordering_then a b ≡ Equal → (a ≡ Equal) × (b ≡ Equal)
both_equal Less b e = cc
both_equal Equal b e = (refl, e)
both_equal Greater b e = cc

-- ---- hosts

pub same_host_rank : (g h : Host) → host_rank g ≡ host_rank h → host.key g ≡ host.key h
same_host_rank (IPv4Address a) (IPv4Address b) e = let same : a ≡ b = cc in ap (λ x. host.key (IPv4Address x)) same
same_host_rank (IPv6Address a) (IPv6Address b) e = let same : a ≡ b = cc in ap (λ x. host.key (IPv6Address x)) same
same_host_rank (IPvFuture f) (IPvFuture g) e =
    let same : canonical_lowered f ≡ canonical_lowered g = cc in ap (λ t. host.kind_code host.Future ∷ host.bracketed t) same
same_host_rank (RegisteredName m) (RegisteredName n) e = e
same_host_rank (IPv4Address a) (IPv6Address b) e = absurd (cc)
same_host_rank (IPv4Address a) (IPvFuture f) e = absurd (cc)
same_host_rank (IPv4Address a) (RegisteredName n) e = absurd (cc)
same_host_rank (IPv6Address a) (IPv4Address b) e = absurd (cc)
same_host_rank (IPv6Address a) (IPvFuture f) e = absurd (cc)
same_host_rank (IPv6Address a) (RegisteredName n) e = absurd (cc)
same_host_rank (IPvFuture f) (IPv4Address b) e = absurd (cc)
same_host_rank (IPvFuture f) (IPv6Address b) e = absurd (cc)
same_host_rank (IPvFuture f) (RegisteredName n) e = absurd (cc)
same_host_rank (RegisteredName n) (IPv4Address b) e = absurd (cc)
same_host_rank (RegisteredName n) (IPv6Address b) e = absurd (cc)
same_host_rank (RegisteredName n) (IPvFuture f) e = absurd (cc)

-- the key alone determines it
host_rank_key : (h : Host) → host.Valid h → host_rank_in (host.key h) ≡ host_rank h
host_rank_key (IPv4Address a) v = ap host_rank_read (host_exact.again (ipv4_text a) (IPv4Address a) (SpellsIpv4-ipv4_text a v))
host_rank_key (IPv6Address a) v =
    ap host_rank_read (host_exact.again (host.bracketed (ipv6_text a)) (IPv6Address a) (ipv6_text a, refl, SpellsIpv6-ipv6_text a v))
host_rank_key (IPvFuture f) v =
    ap host_rank_read (host_exact.again (host.bracketed (canonical_lowered f)) (IPvFuture (canonical_lowered f)) (refl, IsFuture-canonical_lowered f v))
    ∙ ap (λ t. host.kind_code host.Future ∷ t) (IsFuture-twice f v)
host_rank_key (RegisteredName n) v = refl

pub host_ordered : (g h : Host) → host.Valid g → host.Valid h → slice_cmp nat_cmp (host_rank g) (host_rank h) ≡ host_key_cmp (host.key g) (host.key h)
host_ordered g h v w =
    by_key host_rank_in (slice_cmp nat_cmp) (host.key g) (host.key h) (slice_cmp nat_cmp (host_rank g) (host_rank h))
    (ap (λ r. slice_cmp nat_cmp r (host_rank_in (host.key h))) (host_rank_key g v) ∙ ap (slice_cmp nat_cmp (host_rank g)) (host_rank_key h w))
    (λ e. same_host_rank g h (same_lists (host_rank g) (host_rank h) e))

-- ---- authorities

cut_rank : (code : ℕ) (t : List ℕ) (u w : Option (List ℕ)) (g : List ℕ) (n : Option (List ℕ)) → IsCutInto t u w g n
    → rank_in (code ∷ t) ≡ pieces_rank code u w g n
cut_rank code t u w g n cut =
    ap (λ x. pieces_rank code x (password_text t) (host_text t) (port_text t)) cut.username
    ∙ ap (λ x. pieces_rank code u x (host_text t) (port_text t)) cut.password
    ∙ ap (λ x. pieces_rank code u w x (port_text t)) cut.host
    ∙ ap (λ x. pieces_rank code u w g x) cut.port

-- the key alone determines it
pub rank_key : (p : AuthorityParts) → Valid p → rank_in (key p) ≡ rank p
rank_key p v =
    cut_rank (host.kind_code (kind p)) (canonical_text p) (option_map canonical p.username) (option_map canonical p.password) (host.canonical_text p.host)
    (option_map port.text p.port) (canonical_cut p v)
    ∙ rw (host_rank_key p.host v.is_host, port_value p.port v.is_port) refl

pub same_options : (o p : Option (List ℕ)) → option_cmp (slice_cmp nat_cmp) o p ≡ Equal → o ≡ p
same_options None None e = refl
same_options None (Some t) e = cc
same_options (Some s) None e = cc
same_options (Some s) (Some t) e = ap Some (same_lists s t e)

same_ports : (m n : Option ℕ) → option_cmp nat_cmp m n ≡ Equal → m ≡ n
same_ports None None e = refl
same_ports None (Some n) e = cc
same_ports (Some m) None e = cc
same_ports (Some m) (Some n) e = ap Some (eqb-true m n (unsigned_ties m n ∙ ap is_eq e))

abbrev after_password : AuthorityParts → AuthorityParts → Ordering
after_password p q = ordering_then (slice_cmp nat_cmp (host_rank p.host) (host_rank q.host)) (option_cmp nat_cmp p.port q.port)

abbrev after_username : AuthorityParts → AuthorityParts → Ordering
after_username p q =
    ordering_then (option_cmp (slice_cmp nat_cmp) (option_map canonical p.password) (option_map canonical q.password)) (after_password p q)

pub same_rank : (p q : AuthorityParts) → rank_cmp (rank p) (rank q) ≡ Equal → key p ≡ key q
same_rank p q e =
    let user = both_equal (option_cmp (slice_cmp nat_cmp) (option_map canonical p.username) (option_map canonical q.username)) (after_username p q) e in
    let word =
    both_equal (option_cmp (slice_cmp nat_cmp) (option_map canonical p.password) (option_map canonical q.password)) (after_password p q) user.1 in
    let offset = both_equal (slice_cmp nat_cmp (host_rank p.host) (host_rank q.host)) (option_cmp nat_cmp p.port q.port) word.1 in
    let u = same_options (option_map canonical p.username) (option_map canonical q.username) user.0 in
    let w = same_options (option_map canonical p.password) (option_map canonical q.password) word.0 in
    let keys = same_host_rank p.host q.host (same_lists (host_rank p.host) (host_rank q.host) offset.0) in
    let codes : host.kind_code (kind p) ≡ host.kind_code (kind q) = cc in
    let g : host.canonical_text p.host ≡ host.canonical_text q.host = cc in
    let n = same_ports p.port q.port offset.1 in
    rw (codes, u, w, g, n) refl

pub ordered : (p q : AuthorityParts) → Valid p → Valid q → rank_cmp (rank p) (rank q) ≡ authority_key_cmp (key p) (key q)
ordered p q v w =
    by_key rank_in rank_cmp (key p) (key q) (rank_cmp (rank p) (rank q))
    (ap (λ r. rank_cmp r (rank_in (key q))) (rank_key p v) ∙ ap (rank_cmp (rank p)) (rank_key q w))
    (same_rank p q)
