-- The laws of public hosts.
use Rattle.std.proofs.Common.{◌≡◌, ℕ, suc, false, List, [], ◌∷◌, ◌++◌, Some, refl, sym, ap, subst, ◌∙◌, arith}
use Rattle.std.specs.Prelude.{◌==◌, ◌↔◌, Ok, flat_map, is_some, length, map}
use Rattle.std.proofs.lemmas.Bool.{false≢true}
use Rattle.std.proofs.lemmas.Bool.Decides.{nat_tests}
use Rattle.uriparse_text.specs.Canonical.{canonical_lowered, canonical_token}
use Rattle.uriparse_text.specs.Reach.{ip_reach, ipv4_reach, ipv6_reach}
use Rattle.uriparse_text.specs.Tokens.{spell, tokens}
use Rattle.uriparse_text.specs.declared.address.IpAddr.{IpAddr}
use Rattle.uriparse_text.specs.declared.address.IpAddr.TheVariants as ip
use Rattle.uriparse_text.specs.declared.address.reach.Reach.TheVariants.{Global}
use Rattle.uriparse_text.specs.declared.internal.token.Case.TheVariants.{Lowered}
use Rattle.uriparse_text.specs.declared.internal.token.Token.{Token}
use Rattle.uriparse_text.specs.declared.internal.token.Token.TheVariants.{Byte, Escape}
use Rattle.uriparse_text.proofs.lemmas.addresses.ReadingLemmas.{ipv4_reading-spelled, ipv4_text-injective, ipv6_text-injective}
use Rattle.uriparse_text.proofs.lemmas.canonical.CanonicalLemmas.{by_escaped, spell-canonical_token}
use Rattle.uriparse_text.proofs.lemmas.tokens.TokenLemmas.{spell-tokens}
use Rattle.uriparse_authority.specs.declared.authority.host.Host.{Host}
use Rattle.uriparse_authority.specs.declared.authority.host.Host.TheVariants.{IPv4Address, IPv6Address, IPvFuture, RegisteredName}
use Rattle.uriparse_authority.specs.Host.{IsHiddenAddress, ReadsBack, Valid, canonical_text, host_at, is_empty, key, reading, text}
use Rattle.uriparse_authority.specs.Normal.{canonical_host}
use Rattle.uriparse_authority.specs.Public.{IsPublic, IsPublicName, address_of}
use Rattle.uriparse_authority.specs.Within.{begins_with_digit, has_escape, is_address, labels, last_label}
use Rattle.uriparse_authority.proofs.lemmas.authorities.NormalLemmas.{host_text-canonical, host_twice, host_valid_canonical}
use Rattle.uriparse_authority.proofs.lemmas.hosts.HostLemmas.{bracketed-injective, host_back, host_exact, same_host}

-- ---- addresses

pub address_exact : (h : Host) (a : IpAddr) → (address_of h ≡ Some a) ↔ (h ≡ host_at a)
address_exact (IPv4Address a) (ip.V4 b) = ((λ e. cc), (λ e. cc))
address_exact (IPv4Address a) (ip.V6 b) = ((λ e. cc), (λ e. cc))
address_exact (IPv6Address a) (ip.V4 b) = ((λ e. cc), (λ e. cc))
address_exact (IPv6Address a) (ip.V6 b) = ((λ e. cc), (λ e. cc))
address_exact (IPvFuture f) (ip.V4 b) = ((λ e. cc), (λ e. cc))
address_exact (IPvFuture f) (ip.V6 b) = ((λ e. cc), (λ e. cc))
address_exact (RegisteredName n) (ip.V4 b) = ((λ e. cc), (λ e. cc))
address_exact (RegisteredName n) (ip.V6 b) = ((λ e. cc), (λ e. cc))

pub public_address : (a : IpAddr) → IsPublic (host_at a) ↔ (ip_reach a ≡ Global)
public_address (ip.V4 a) = ((λ e. e), (λ e. e))
public_address (ip.V6 a) = ((λ e. e), (λ e. e))

-- ---- names

lowered_tokens : (ts : List Token) → flat_map spell (map (canonical_token Lowered) ts) ≡ [] → flat_map spell ts ≡ []
lowered_tokens [] h = refl
lowered_tokens (Byte b ∷ ts) h = cc
lowered_tokens (Escape high low ∷ ts) h =
    let no : flat_map spell (map (canonical_token Lowered) (Escape high low ∷ ts)) ≡ []
    → ⊥ = by_escaped Lowered high low (λ t. spell t ++ flat_map spell (map (canonical_token Lowered) ts) ≡ [] → ⊥) (λ e k. cc) (λ e k. cc) in
    absurd (no h)

-- only the empty name has an empty canonical spelling
lowered_empty : (n : List ℕ) → canonical_lowered n ≡ [] → n ≡ []
lowered_empty n h = sym (spell-tokens n) ∙ lowered_tokens (tokens n) (spell-canonical_token Lowered n ∙ h)

more_than_none : (n : ℕ) → (suc n == 0) ≡ false
more_than_none n = grind (arith, nat_tests)

-- a name isn't empty if its canonical spelling is that of one that isn't
some_kept : (m n : List ℕ) → canonical_lowered m ≡ canonical_lowered n → is_empty (RegisteredName m) ≡ false → is_empty (RegisteredName n) ≡ false
unfolding tokens
some_kept m (x ∷ u) e some = more_than_none (length u)
some_kept m [] e some =
    let none : m ≡ [] = lowered_empty m (e ∙ sym (spell-canonical_token Lowered [])) in
    absurd (false≢true (sym some ∙ ap (λ t. is_empty (RegisteredName t)) none))

name_kept : (m n : List ℕ) → canonical_lowered m ≡ canonical_lowered n → IsPublicName (RegisteredName m) → IsPublicName (RegisteredName n)
name_kept m n e p = record {
  some = some_kept m n e p.some;
  unescaped = subst (λ t. has_escape t ≡ false) e p.unescaped;
  plain = subst (λ t. is_address t ≡ false) e p.plain;
  not_numeric = subst (λ t. begins_with_digit (last_label (labels t)) ≡ false) e p.not_numeric;
}

pub public_name : (n : List ℕ) → IsPublic (RegisteredName n) → IsPublicName (RegisteredName n)
public_name n p = p

-- ---- equal hosts

pub public_equals : (g h : Host) → Valid g → Valid h → key g ≡ key h → IsPublic g → IsPublic h
public_equals (IPv4Address a) (IPv4Address b) v w e p =
    let same : a ≡ b = ipv4_text-injective a b v w ((same_host (IPv4Address a) (IPv4Address b)).0 e).0 in subst (λ x. ipv4_reach x ≡ Global) same p
public_equals (IPv6Address a) (IPv6Address b) v w e p =
    let same : a ≡ b = ipv6_text-injective a b v w (bracketed-injective _ _ ((same_host (IPv6Address a) (IPv6Address b)).0 e).0) in
    subst (λ x. ipv6_reach x ≡ Global) same p
public_equals (IPvFuture f) h v w e p = absurd p
public_equals (RegisteredName m) (RegisteredName n) v w e p = name_kept m n ((same_host (RegisteredName m) (RegisteredName n)).0 e).0 p
public_equals (IPv4Address a) (IPv6Address b) v w e p = absurd (cc)
public_equals (IPv4Address a) (IPvFuture g) v w e p = absurd (cc)
public_equals (IPv4Address a) (RegisteredName n) v w e p = absurd (cc)
public_equals (IPv6Address a) (IPv4Address b) v w e p = absurd (cc)
public_equals (IPv6Address a) (IPvFuture g) v w e p = absurd (cc)
public_equals (IPv6Address a) (RegisteredName n) v w e p = absurd (cc)
public_equals (RegisteredName m) (IPv4Address b) v w e p = absurd (cc)
public_equals (RegisteredName m) (IPv6Address b) v w e p = absurd (cc)
public_equals (RegisteredName m) (IPvFuture g) v w e p = absurd (cc)

-- ---- the normal form

pub public_normal : (h : Host) → Valid h → IsPublic h → IsPublic (canonical_host h)
public_normal (IPv4Address a) v p = p
public_normal (IPv6Address a) v p = p
public_normal (IPvFuture f) v p = p
public_normal (RegisteredName n) v p =
    let twice : canonical_lowered (canonical_lowered n) ≡ canonical_lowered n = let t = host_twice (RegisteredName n) v in cc in
    name_kept n (canonical_lowered n) (sym twice) p

not_hidden : (h : Host) → IsPublic h → IsHiddenAddress (canonical_host h) → ⊥
not_hidden (RegisteredName n) p hidden = false≢true (sym p.plain ∙ ap is_some (ipv4_reading-spelled (canonical_lowered n) hidden.0 hidden.1))
not_hidden (IPv4Address a) p hidden = hidden
not_hidden (IPv6Address a) p hidden = hidden
not_hidden (IPvFuture f) p hidden = hidden

-- a public host stays what it is when its canonical spelling is read
pub public_back : (h : Host) → Valid h → IsPublic h → reading (canonical_text h) ≡ Ok (canonical_host h)
public_back h v p =
    let back : ReadsBack (canonical_host h) = host_back (canonical_host h) (host_valid_canonical h v) (not_hidden h p) in
    sym (ap reading (host_text-canonical h)) ∙ host_exact.again (text (canonical_host h)) (canonical_host h) back
