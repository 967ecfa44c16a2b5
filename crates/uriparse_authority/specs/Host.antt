-- Hosts: RFC 3986, section 3.2.2.
use Rattle.std.specs.Prelude.{◌≡◌, ◌⊎◌, ℕ, ◌==◌, Bool, false, List, [], ◌∷◌, ◌++◌, Option, Some, None, Result, Ok, Err, is_none, length, if◌then◌else◌}
use Rattle.std.specs.Option.{option_map, ok_or}
use Rattle.std.specs.List.{list_all}
use Rattle.std.specs.Hash.{HashWrites, slice, u8, u16}
use Rattle.uriparse_text.specs.declared.internal.class.Class.TheVariants as class
use Rattle.uriparse_text.specs.Bytes.{left_bracket, right_bracket}
use Rattle.uriparse_text.specs.Faults.{fault}
use Rattle.uriparse_text.specs.Canonical.{canonical_lowered, fed_text}
use Rattle.uriparse_text.specs.Address.{IsOctets, IsSegments, SpellsIpv4, SpellsIpv6, is_ipv6_byte, ipv4_reading, ipv6_reading, ipv4_text, ipv6_text}
use Rattle.uriparse_text.specs.declared.address.IpAddr.{IpAddr}
use Rattle.uriparse_text.specs.declared.address.IpAddr.TheVariants as ip
use Rattle.uriparse_authority.specs.Name.{IsName}
use Rattle.uriparse_authority.specs.Future.{IsFuture, begins_future}
use Rattle.uriparse_authority.specs.Future as future
use Rattle.uriparse_authority.specs.declared.authority.host.Host.{Host}
use Rattle.uriparse_authority.specs.declared.authority.host.Host.TheVariants.{IPv4Address, IPv6Address, IPvFuture, RegisteredName}
use Rattle.uriparse_authority.specs.declared.authority.error.HostError.{HostError}
use Rattle.uriparse_authority.specs.declared.authority.error.HostError.TheVariants as errors

-- the kind of a host, which distinguishes it besides its text
pub data Kind : Type 0 where
  V4 : Kind
  V6 : Kind
  Future : Kind
  Name : Kind

abbrev pub kind : Host → Kind
kind (IPv4Address a) = V4
kind (IPv6Address a) = V6
kind (IPvFuture f) = Future
kind (RegisteredName n) = Name

-- the host at an address of either kind
abbrev pub host_at : IpAddr → Host
host_at (ip.V4 a) = IPv4Address a
host_at (ip.V6 a) = IPv6Address a

-- a number for each kind
abbrev pub kind_code : Kind → ℕ
kind_code V4 = 4
kind_code V6 = 6
kind_code Future = 7
kind_code Name = 1

-- "[" text "]"
abbrev pub bracketed : List ℕ → List ℕ
bracketed t = left_bracket ∷ (t ++ right_bracket ∷ [])

-- The text stands for the host. A text of the class of names stands for the IPv4 address that it spells, or else for
-- a name. In brackets an IPv6 spelling stands for its address, and an address of a later version for itself.
abbrev pub Spells : List ℕ → Host → Type 0
Spells t (IPv4Address a) = SpellsIpv4 t a
Spells t (IPv6Address a) = (inner : List ℕ) × (t ≡ bracketed inner) × SpellsIpv6 inner a
Spells t (IPvFuture f) = (t ≡ bracketed f) × IsFuture f
Spells t (RegisteredName n) = (n ≡ t) × IsName t × ((a : List ℕ) → SpellsIpv4 t a → ⊥)

-- the text of a host
abbrev pub text : Host → List ℕ
text (IPv4Address a) = ipv4_text a
text (IPv6Address a) = bracketed (ipv6_text a)
text (IPvFuture f) = bracketed f
text (RegisteredName n) = n

-- a name without a byte, as in `file:///a`
abbrev pub is_empty : Host → Bool
is_empty (IPv4Address a) = false
is_empty (IPv6Address a) = false
is_empty (IPvFuture f) = false
is_empty (RegisteredName n) = length n == 0

-- its text in canonical spelling
abbrev pub canonical_text : Host → List ℕ
canonical_text (IPv4Address a) = ipv4_text a
canonical_text (IPv6Address a) = bracketed (ipv6_text a)
canonical_text (IPvFuture f) = bracketed (canonical_lowered f)
canonical_text (RegisteredName n) = canonical_lowered n

abbrev pub Valid : Host → Type 0
Valid (IPv4Address a) = IsOctets a
Valid (IPv6Address a) = IsSegments a
Valid (IPvFuture f) = IsFuture f
Valid (RegisteredName n) = IsName n

-- Its text stands for it. So it is but for a name whose text spells an IPv4 address.
abbrev pub ReadsBack : Host → Type 0
ReadsBack h = Spells (text h) h

-- a name whose text spells an IPv4 address
abbrev pub IsHiddenAddress : Host → Type 0
IsHiddenAddress (IPv4Address a) = ⊥
IsHiddenAddress (IPv6Address a) = ⊥
IsHiddenAddress (IPvFuture f) = ⊥
IsHiddenAddress (RegisteredName n) = (a : List ℕ) × SpellsIpv4 n a

-- the one host holds as a name what the other holds as an IPv4 address
abbrev pub HoldsAsName : Host → Host → Type 0
HoldsAsName (RegisteredName n) (IPv4Address a) = SpellsIpv4 n a
HoldsAsName (RegisteredName n) (IPv6Address a) = ⊥
HoldsAsName (RegisteredName n) (IPvFuture f) = ⊥
HoldsAsName (RegisteredName n) (RegisteredName m) = ⊥
HoldsAsName (IPv4Address a) h = ⊥
HoldsAsName (IPv6Address a) h = ⊥
HoldsAsName (IPvFuture f) h = ⊥

-- one of the two holds as a name what the other holds as an IPv4 address
abbrev pub OneHidesAddress : Host → Host → Type 0
OneHidesAddress g h = HoldsAsName g h ⊎ HoldsAsName h g

-- ---- reading

-- the text before a last closing bracket, where the text ends with one
abbrev pub closed : List ℕ → Option (List ℕ)
closed [] = None
closed (b ∷ []) = if b == right_bracket then Some [] else None
closed (b ∷ c ∷ t) = option_map (λ u. b ∷ u) (closed (c ∷ t))

-- what stands in brackets, where the text begins and ends with them
abbrev pub in_brackets : List ℕ → Option (List ℕ)
in_brackets [] = None
in_brackets (b ∷ t) = if b == left_bracket then closed t else None

-- the host of an address of a later version that was read, or its fault
abbrev pub future_host : Result (List ℕ) HostError → Result Host HostError
future_host (Ok f) = Ok (IPvFuture f)
future_host (Err e) = Err e

-- the result of reading the text between brackets
abbrev pub literal_reading : List ℕ → Result Host HostError
literal_reading t =
    if begins_future t then future_host (future.reading t)
    else if list_all is_ipv6_byte t then ok_or (option_map IPv6Address (ipv6_reading t)) errors.InvalidIPv6Format
    else Err errors.InvalidIPv6Character

-- the IPv4 address, or else the name
abbrev pub address_or_name : List ℕ → Option (List ℕ) → Host
address_or_name t (Some a) = IPv4Address a
address_or_name t None = RegisteredName t

-- the result of reading a text without brackets
abbrev pub name_reading : List ℕ → Result Host HostError
name_reading t =
    if is_none (fault class.Name t) then Ok (address_or_name t (ipv4_reading t))
    else Err errors.InvalidIPv4OrRegisteredNameCharacter

abbrev pub bracket_reading : Option (List ℕ) → List ℕ → Result Host HostError
bracket_reading (Some inner) t = literal_reading inner
bracket_reading None t = name_reading t

-- the result of reading a text as a host
abbrev pub reading : List ℕ → Result Host HostError
reading t = bracket_reading (in_brackets t) t

-- ---- comparing

-- what hosts are compared by: the kind, and then the canonical spelling
abbrev pub key : Host → List ℕ
key h = kind_code (kind h) ∷ canonical_text h

-- what a hasher is fed: the kind, and then an IPv4 or IPv6 address as its numbers, any other text as its canonical spelling
abbrev pub fed : Host → HashWrites
fed (IPv4Address a) = u8 (kind_code V4) ++ slice u8 a
fed (IPv6Address a) = u8 (kind_code V6) ++ slice u16 a
fed (IPvFuture f) = u8 (kind_code Future) ++ fed_text (canonical_lowered f)
fed (RegisteredName n) = u8 (kind_code Name) ++ fed_text (canonical_lowered n)

abbrev pub fed_read : Result Host HostError → HashWrites
fed_read (Ok h) = fed h
fed_read (Err e) = []

-- the same, from the key alone: for a name its canonical spelling, else what is fed for the host that is read again
abbrev pub fed_key : List ℕ → HashWrites
fed_key [] = []
fed_key (code ∷ t) = if code == kind_code Name then u8 code ++ fed_text t else fed_read (reading t)
