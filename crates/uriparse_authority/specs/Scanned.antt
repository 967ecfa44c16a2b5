-- What a reader found.
use Rattle.std.specs.Prelude.{◌≡◌, ◌≤◌, ℕ, Bool, ◌==◌, List, None, length, take, if◌then◌else◌}
use Rattle.uriparse_text.specs.Canonical.{canonical_lowered}
use Rattle.uriparse_text.specs.Spelling.{IsValidText}
use Rattle.uriparse_text.specs.declared.internal.class.Class.TheVariants as class
use Rattle.uriparse_text.specs.declared.internal.token.Case.TheVariants as case
use Rattle.uriparse_authority.specs.Authority.{AuthorityParts}
use Rattle.uriparse_authority.specs.declared.authority.host.Host.{Host}
use Rattle.uriparse_authority.specs.declared.authority.host.Host.TheVariants.{IPv4Address, IPv6Address, IPvFuture, RegisteredName}

-- the host of a kind: 0 for a name, 4 for an IPv4 address, 7 for an address of a later version
abbrev pub scanned_host : ℕ → List ℕ → List ℕ → List ℕ → Host
scanned_host kind text ipv4 ipv6 =
    if kind == 0 then RegisteredName text
    else if kind == 4 then IPv4Address ipv4
    else if kind == 7 then IPvFuture text
    else IPv6Address ipv6

-- a name of this many bytes, in canonical spelling: a word of a private function's clause alone
abbrev pub IsCanonicalName : Host → ℕ → Type 0
IsCanonicalName (IPv4Address a) len = ⊥
IsCanonicalName (IPv6Address a) len = ⊥
IsCanonicalName (IPvFuture f) len = ⊥
IsCanonicalName (RegisteredName n) len = (length n ≡ len) × (canonical_lowered n ≡ n)

-- a name of this many bytes, canonical if so marked
abbrev pub IsNameOf : ℕ → Bool → Host → Type 0
IsNameOf len canonical (IPv4Address a) = ⊥
IsNameOf len canonical (IPv6Address a) = ⊥
IsNameOf len canonical (IPvFuture f) = ⊥
IsNameOf len canonical (RegisteredName n) = (length n ≡ len) × IsValidText class.Name case.Lowered canonical n

-- The authority of a text is a name, its first bytes, so many, and at most a port.
pub record IsNamed (len : ℕ) (canonical : Bool) (text : List ℕ) (a : AuthorityParts) : Type 0 where
  pub within : len ≤ length text
  pub is_name : a ≡ record { username = None; password = None; host = RegisteredName (take len text); port = a.port }
  pub is_valid_text : IsValidText class.Name case.Lowered canonical (take len text)
