-- Hosts and authorities in canonical spelling.
use Rattle.std.proofs.Common.{◌≡◌, ◌↔◌, ℕ, Bool, List, Option, Some, None, refl, sym, ap, ◌∙◌, subst}
use Rattle.std.specs.Prelude.{IfSome, IsTrue, bytes_eq}
use Rattle.std.specs.Option.{option_eq, option_map}
use Rattle.std.proofs.lemmas.Slice.Eq.{bytes_eq-Decides}
use Rattle.uriparse_text.specs.declared.internal.class.Class.{Class}
use Rattle.uriparse_text.specs.declared.internal.class.Class.TheVariants.{Name, UserInfo}
use Rattle.uriparse_text.specs.declared.internal.token.Case.TheVariants.{Kept, Lowered}
use Rattle.uriparse_text.specs.Faults.{IsIn}
use Rattle.uriparse_text.specs.Canonical.{canonical, canonical_lowered}
use Rattle.uriparse_text.proofs.lemmas.canonical.CanonicalLemmas.{canonical_in-canonical_in}
use Rattle.uriparse_text.proofs.lemmas.classes.ClassLemmas.{well_formed-in_class, IsIn-canonical_in}
use Rattle.uriparse_authority.specs.Authority.{AuthorityParts, IsPaired, Valid, joined, print, canonical_text, kind, username_text, password_text, host_text}
use Rattle.uriparse_authority.specs.Authority.{port_text}
use Rattle.uriparse_authority.specs.Host as host
use Rattle.uriparse_authority.specs.Port as port
use Rattle.uriparse_authority.specs.Normal.{canonical_host, canonical_authority}
use Rattle.uriparse_authority.proofs.lemmas.authorities.AuthorityLemmas.{print_cut, one_port}
use Rattle.uriparse_authority.proofs.lemmas.hosts.FutureLemmas.{IsFuture-canonical_lowered, IsFuture-twice}
use Rattle.uriparse_authority.proofs.lemmas.hosts.HostLemmas.{bracketed-injective}
use Rattle.uriparse_text.proofs.lemmas.addresses.ReadingLemmas.{ipv4_text-injective, ipv6_text-injective}
use Rattle.uriparse_text.specs.Address.{ipv6_text}
use Rattle.uriparse_authority.specs.declared.authority.host.Host.{Host}
use Rattle.uriparse_authority.specs.declared.authority.host.Host.TheVariants.{IPv4Address, IPv6Address, IPvFuture, RegisteredName}

-- ---- texts that may be absent

pub text_valid : (class : Class) (o : Option (List ℕ)) → IfSome o (λ t. IsIn class t) → IfSome (option_map canonical o) (λ t. IsIn class t)
text_valid class None h = tt
text_valid class (Some t) h = IsIn-canonical_in class Kept t h

pub text_twice : (class : Class) (o : Option (List ℕ)) → IfSome o (λ t. IsIn class t) → option_map canonical (option_map canonical o) ≡ option_map canonical o
text_twice class None h = refl
text_twice class (Some t) h = ap Some (canonical_in-canonical_in Kept t (well_formed-in_class class t h))

-- the test for a part's canonical spelling
pub canonical_part : (o : Option (List ℕ)) (r : Bool) → r ≡ option_eq bytes_eq (option_map canonical o) o → IsTrue r ↔ (option_map canonical o ≡ o)
canonical_part None r e = ((λ h. refl), (λ h. e))
canonical_part (Some t) r e =
    let test = bytes_eq-Decides (canonical t) t in
    ((λ h. ap Some (test.0 (sym e ∙ h))), (λ h. let texts : canonical t ≡ t = cc in e ∙ test.1 texts))

-- ---- hosts

pub host_text-canonical : (h : Host) → host.text (canonical_host h) ≡ host.canonical_text h
host_text-canonical (IPv4Address a) = refl
host_text-canonical (IPv6Address a) = refl
host_text-canonical (IPvFuture f) = refl
host_text-canonical (RegisteredName n) = refl

pub host_kind-canonical : (h : Host) → host.kind (canonical_host h) ≡ host.kind h
host_kind-canonical (IPv4Address a) = refl
host_kind-canonical (IPv6Address a) = refl
host_kind-canonical (IPvFuture f) = refl
host_kind-canonical (RegisteredName n) = refl

pub host_valid_canonical : (h : Host) → host.Valid h → host.Valid (canonical_host h)
host_valid_canonical (IPv4Address a) v = v
host_valid_canonical (IPv6Address a) v = v
host_valid_canonical (IPvFuture f) v = IsFuture-canonical_lowered f v
host_valid_canonical (RegisteredName n) v = IsIn-canonical_in Name Lowered n v

pub host_twice : (h : Host) → host.Valid h → canonical_host (canonical_host h) ≡ canonical_host h
host_twice (IPv4Address a) v = refl
host_twice (IPv6Address a) v = refl
host_twice (IPvFuture f) v = ap IPvFuture (IsFuture-twice f v)
host_twice (RegisteredName n) v = ap RegisteredName (canonical_in-canonical_in Lowered n (well_formed-in_class Name n v))

-- an address of a later version is canonical exactly if its text is
pub future_normal : (h : Host) (f : List ℕ) (r : Bool) → h ≡ IPvFuture f → IsTrue r ↔ (canonical_lowered f ≡ f)
    → IsTrue r ↔ (host.text (canonical_host h) ≡ host.text h)
future_normal h f r e test = rw e (
  (λ t. ap host.bracketed (test.0 t)),
  (λ same. test.1 (bracketed-injective (canonical_lowered f) f same)),
)

pub future_same : (h : Host) (f : List ℕ) → h ≡ IPvFuture f → host.text (canonical_host h) ≡ host.text h → canonical_lowered f ≡ f
future_same h f e same =
    bracketed-injective (canonical_lowered f) f (subst (λ g. host.text (canonical_host g) ≡ host.text g) e same)

-- ---- authorities

paired : (u w : Option (List ℕ)) → IsPaired u w → IsPaired (option_map canonical u) (option_map canonical w)
paired u None h = tt
paired (Some u) (Some w) h = refl
paired None (Some w) h = h

pub print-canonical : (a : AuthorityParts) → print (canonical_authority a) ≡ canonical_text a
print-canonical a = ap (λ g. joined (option_map canonical a.username) (option_map canonical a.password) g (option_map port.text a.port))
    (host_text-canonical a.host)

pub kind-canonical : (a : AuthorityParts) → kind (canonical_authority a) ≡ kind a
kind-canonical a = host_kind-canonical a.host

pub valid_canonical : (a : AuthorityParts) → Valid a → Valid (canonical_authority a)
valid_canonical a v =
    record {
      is_username = text_valid Name a.username v.is_username;
      is_password = text_valid UserInfo a.password v.is_password;
      paired = paired a.username a.password v.paired;
      is_host = host_valid_canonical a.host v.is_host;
      is_port = v.is_port;
    }

pub canonical_twice : (a : AuthorityParts) → Valid a → canonical_authority (canonical_authority a) ≡ canonical_authority a
canonical_twice a v =
    ap (λ u. record {
      username = u;
      password = option_map canonical (option_map canonical a.password);
      host = canonical_host (canonical_host a.host);
      port = a.port;
    })
    (text_twice Name a.username v.is_username)
    ∙ ap (λ w. record { username = option_map canonical a.username; password = w; host = canonical_host (canonical_host a.host); port = a.port })
    (text_twice UserInfo a.password v.is_password)
    ∙ ap (λ h. record {
      username = option_map canonical a.username;
      password = option_map canonical a.password;
      host = h;
      port = a.port;
    }) (host_twice a.host v.is_host)

host_kept : (h : Host) → host.text (canonical_host h) ≡ host.text h → canonical_host h ≡ h
host_kept (IPv4Address a) e = refl
host_kept (IPv6Address a) e = refl
host_kept (IPvFuture f) e = ap IPvFuture (bracketed-injective (canonical_lowered f) f e)
host_kept (RegisteredName n) e = ap RegisteredName e

-- an authority whose parts are canonical is its normal form
pub canonical_of_parts : (a : AuthorityParts) → option_map canonical a.username ≡ a.username → option_map canonical a.password ≡ a.password
    → host.text (canonical_host a.host) ≡ host.text a.host → canonical_authority a ≡ a
canonical_of_parts a u w h =
    ap (λ t. record { username = t; password = option_map canonical a.password; host = canonical_host a.host; port = a.port }) u
    ∙ ap (λ t. record { username = a.username; password = t; host = canonical_host a.host; port = a.port }) w
    ∙ ap (λ t. record { username = a.username; password = a.password; host = t; port = a.port }) (host_kept a.host h)

-- an authority that prints as its normal form is that form
pub canonical_kept : (a : AuthorityParts) → Valid a → print (canonical_authority a) ≡ print a → canonical_authority a ≡ a
canonical_kept a v e =
    let x = print_cut (canonical_authority a) (valid_canonical a v) in
    let y = print_cut a v in
    canonical_of_parts a (sym x.username ∙ ap username_text e ∙ y.username) (sym x.password ∙ ap password_text e ∙ y.password)
    (sym x.host ∙ ap host_text e ∙ y.host)

-- the same of one that equals it
pub kept_inside : (a p : AuthorityParts) → a ≡ p → Valid a → print (canonical_authority p) ≡ print p → canonical_authority a ≡ a
kept_inside a p e v same = canonical_kept a v (subst (λ q. print (canonical_authority q) ≡ print q) (sym e) same)

-- ---- valid hosts, and authorities, with one printed text

pub host_same : (g h : Host) → host.Valid g → host.Valid h → host.text g ≡ host.text h → host.kind g ≡ host.kind h → g ≡ h
host_same (IPv4Address a) (IPv4Address b) v w e k = ap IPv4Address (ipv4_text-injective a b v w e)
host_same (IPv6Address a) (IPv6Address b) v w e k = ap IPv6Address (ipv6_text-injective a b v w (bracketed-injective (ipv6_text a) (ipv6_text b) e))
host_same (IPvFuture f) (IPvFuture g) v w e k = ap IPvFuture (bracketed-injective f g e)
host_same (RegisteredName m) (RegisteredName n) v w e k = ap RegisteredName e
host_same (IPv4Address a) (IPv6Address b) v w e k = absurd (cc)
host_same (IPv4Address a) (IPvFuture g) v w e k = absurd (cc)
host_same (IPv4Address a) (RegisteredName n) v w e k = absurd (cc)
host_same (IPv6Address a) (IPv4Address b) v w e k = absurd (cc)
host_same (IPv6Address a) (IPvFuture g) v w e k = absurd (cc)
host_same (IPv6Address a) (RegisteredName n) v w e k = absurd (cc)
host_same (IPvFuture f) (IPv4Address b) v w e k = absurd (cc)
host_same (IPvFuture f) (IPv6Address b) v w e k = absurd (cc)
host_same (IPvFuture f) (RegisteredName n) v w e k = absurd (cc)
host_same (RegisteredName m) (IPv4Address b) v w e k = absurd (cc)
host_same (RegisteredName m) (IPv6Address b) v w e k = absurd (cc)
host_same (RegisteredName m) (IPvFuture g) v w e k = absurd (cc)

pub one_printed : (p q : AuthorityParts) → Valid p → Valid q → print p ≡ print q → kind p ≡ kind q → p ≡ q
one_printed p q v w e k =
    let x = print_cut p v in
    let y = print_cut q w in
    let g : host.text p.host ≡ host.text q.host = sym x.host ∙ ap host_text e ∙ y.host in
    let n : option_map port.text p.port ≡ option_map port.text q.port = sym x.port ∙ ap port_text e ∙ y.port in
    ap (λ t. build t p.password p.host p.port) (sym x.username ∙ ap username_text e ∙ y.username)
    ∙ ap (λ t. build q.username t p.host p.port) (sym x.password ∙ ap password_text e ∙ y.password)
    ∙ ap (λ t. build q.username q.password t p.port) (host_same p.host q.host v.is_host w.is_host g k)
    ∙ ap (λ t. build q.username q.password q.host t) (one_port p.port q.port v.is_port w.is_port n)
  where
    build : Option (List ℕ) → Option (List ℕ) → Host → Option ℕ → AuthorityParts
    build u w h n = record { username = u; password = w; host = h; port = n }
