-- The order of hosts and of authorities, by their canonical spellings: RFC 3986, sections 3.2 and 6.2.2.
use Rattle.std.specs.Prelude.{◌≡◌, ℕ, ◌==◌, List, [], ◌∷◌, Option, None, Result, Ok, Err, bytes_eq, unwrap_or, if◌then◌else◌}
use Rattle.std.specs.Cmp.{IsPartialOrder, IsTotalOrder, nat_cmp_total, on_total, then_total}
use Rattle.std.specs.Cmp.Lexicographic.{slice_cmp, nat_list_cmp_total, options_total}
use Rattle.std.specs.Option.{option_cmp, option_map}
use Rattle.std.specs.Ordering.{as_partial_cmp, eq_by_cmp, nat_cmp, on, ordering_then}
use Rattle.std.specs.declared.cmp.Ordering.{Ordering}
use Rattle.uriparse_text.specs.Canonical.{canonical, canonical_lowered}
use Rattle.uriparse_authority.specs.Authority.{AuthorityParts, key, host_text, password_text, port_text, username_text}
use Rattle.uriparse_authority.specs.Host as host
use Rattle.uriparse_authority.specs.KeyOrder.{key_cmp, keyed_po, keyed_ties, keyed_total}
use Rattle.uriparse_authority.specs.Port as port
use Rattle.uriparse_authority.specs.declared.authority.host.Host.{Host}
use Rattle.uriparse_authority.specs.declared.authority.host.Host.TheVariants.{IPv4Address, IPv6Address, IPvFuture, RegisteredName}
use Rattle.uriparse_authority.specs.declared.authority.error.HostError.{HostError}

-- What a host is ordered by: the number of its kind, by which names precede IPv4 addresses, these IPv6 addresses, and these addresses of later
-- versions; and then the octets or segments of an address, or the canonical spelling of another host.
abbrev pub host_rank : Host → List ℕ
host_rank (IPv4Address a) = host.kind_code host.V4 ∷ a
host_rank (IPv6Address a) = host.kind_code host.V6 ∷ a
host_rank (IPvFuture f) = host.kind_code host.Future ∷ canonical_lowered f
host_rank (RegisteredName n) = host.kind_code host.Name ∷ canonical_lowered n

-- what an authority is ordered by: each component in canonical spelling
pub record Rank : Type 0 where
  pub username : Option (List ℕ)
  pub password : Option (List ℕ)
  pub host : List ℕ
  pub port : Option ℕ

abbrev pub rank : AuthorityParts → Rank
rank p = record {
  username = option_map canonical p.username;
  password = option_map canonical p.password;
  host = host_rank p.host;
  port = p.port;
}

-- The first component that differs decides. An absent one is less than any that is present; texts are compared by their bytes, ports as numbers.
abbrev pub rank_cmp : Rank → Rank → Ordering
rank_cmp r s =
    ordering_then (option_cmp (slice_cmp nat_cmp) r.username s.username)
    (ordering_then (option_cmp (slice_cmp nat_cmp) r.password s.password)
    (ordering_then (slice_cmp nat_cmp r.host s.host)
    (option_cmp nat_cmp r.port s.port)))

-- ---- the same as functions of the keys, by which values are equal

abbrev pub host_rank_read : Result Host HostError → List ℕ
host_rank_read (Ok h) = host_rank h
host_rank_read (Err e) = []

-- what a host is ordered by, from its key alone
abbrev pub host_rank_in : List ℕ → List ℕ
host_rank_in [] = []
host_rank_in (code ∷ t) = if code == host.kind_code host.Name then code ∷ t else host_rank_read (host.reading t)

abbrev pub host_key_cmp : List ℕ → List ℕ → Ordering
host_key_cmp = key_cmp host_rank_in (slice_cmp nat_cmp)

-- what an authority is ordered by, from its key alone: from these pieces of the canonical text, with the number of the host's kind
abbrev pub pieces_rank : ℕ → Option (List ℕ) → Option (List ℕ) → List ℕ → Option (List ℕ) → Rank
pieces_rank code username password host_piece port_piece = record {
  username = username;
  password = password;
  host = host_rank_in (code ∷ host_piece);
  port = port.value_of (unwrap_or port_piece []);
}

abbrev pub rank_in : List ℕ → Rank
rank_in [] = record { username = None; password = None; host = []; port = None }
rank_in (code ∷ t) = pieces_rank code (username_text t) (password_text t) (host_text t) (port_text t)

abbrev pub authority_key_cmp : List ℕ → List ℕ → Ordering
authority_key_cmp = key_cmp rank_in rank_cmp

-- ---- the laws of `Ord`

pub rank_total : IsTotalOrder rank_cmp
rank_total =
    then_total (on_total (λ (r : Rank). r.username) (options_total nat_list_cmp_total))
    (then_total (on_total (λ (r : Rank). r.password) (options_total nat_list_cmp_total))
    (then_total (on_total (λ (r : Rank). r.host) nat_list_cmp_total)
    (on_total (λ (r : Rank). r.port) (options_total nat_cmp_total))))

pub host_total : IsTotalOrder (on host.key host_key_cmp)
host_total = keyed_total host_rank_in (slice_cmp nat_cmp) nat_list_cmp_total host.key

pub host_ties : (g h : Host) → on host.key bytes_eq g h ≡ eq_by_cmp (on host.key host_key_cmp) g h
host_ties = keyed_ties host_rank_in (slice_cmp nat_cmp) nat_list_cmp_total host.key

pub host_po : IsPartialOrder (on host.key bytes_eq) (as_partial_cmp (on host.key host_key_cmp))
host_po = keyed_po host_rank_in (slice_cmp nat_cmp) nat_list_cmp_total host.key

pub authority_total : IsTotalOrder (on key authority_key_cmp)
authority_total = keyed_total rank_in rank_cmp rank_total key

pub authority_ties : (p q : AuthorityParts) → on key bytes_eq p q ≡ eq_by_cmp (on key authority_key_cmp) p q
authority_ties = keyed_ties rank_in rank_cmp rank_total key

pub authority_po : IsPartialOrder (on key bytes_eq) (as_partial_cmp (on key authority_key_cmp))
authority_po = keyed_po rank_in rank_cmp rank_total key
