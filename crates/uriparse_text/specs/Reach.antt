-- Where an address leads: IANA's special-purpose address registries (RFC 6890), multicast (RFC 5771 and RFC 4291), and the addresses that embed an
-- IPv4 address. An IPv4 address is seen as its four octets, an IPv6 address as its eight segments.
use Rattle.std.specs.Prelude.{◌≡◌, ℕ, ◌-◌, ◌/◌, ◌^◌, ◌≤◌, Bool, true, false, not, ◌==◌, ◌&&◌, ◌||◌, nat_lt, nat_le, List, [], ◌∷◌, ◌++◌, Option, Some, None, map, take, drop, replicate, if◌then◌else◌}
use Rattle.std.specs.List.{Contains, find, list_all}
use Rattle.std.specs.Option.{option_map, option_or}
use Rattle.std.specs.Net.Addr.{octets_of}
use Rattle.uriparse_text.specs.Address.{ipv4_reading, ipv6_reading}
use Rattle.uriparse_text.specs.declared.address.IpAddr.{IpAddr}
use Rattle.uriparse_text.specs.declared.address.IpAddr.TheVariants.{V4, V6}
use Rattle.uriparse_text.specs.declared.address.reach.Reach.{Reach}
use Rattle.uriparse_text.specs.declared.address.reach.Reach.TheVariants.{Global, Loopback, Private, Shared, LinkLocal, UniqueLocal, Documentation, Benchmarking, Multicast, Reserved, Unspecified, Broadcast}

-- a row of a registry: a prefix, the number of its bits that count, and where the addresses that begin with these bits lead
pub record Row : Type 0 where
  pub prefix : List ℕ
  pub bits : ℕ
  pub leads : List ℕ → Reach

-- a row whose addresses all lead to one place
abbrev pub row : List ℕ → ℕ → Reach → Row
row prefix bits reach = record { prefix = prefix; bits = bits; leads = λ address. reach }

-- The address, numbers of so many bits, begins with these bits of the prefix.
abbrev pub begins_with : ℕ → List ℕ → ℕ → List ℕ → Bool
begins_with width [] bits address = true
begins_with width (p ∷ prefix) bits [] = false
begins_with width (p ∷ prefix) bits (n ∷ address) =
    if nat_le width bits then (n == p) && begins_with width prefix (bits - width) address
    else n / 2 ^ (width - bits) == p / 2 ^ (width - bits)

-- the row, before the first one of no more bits
abbrev pub insert_row : Row → List Row → List Row
insert_row r [] = r ∷ []
insert_row r (s ∷ rows) = if nat_lt r.bits s.bits then s ∷ insert_row r rows else r ∷ s ∷ rows

-- the rows, those with the longest prefixes first
abbrev pub longest_first : List Row → List Row
longest_first [] = []
longest_first (r ∷ rows) = insert_row r (longest_first rows)

-- the address is in the row's block
abbrev pub is_in : ℕ → List ℕ → Row → Bool
is_in width address r = begins_with width r.prefix r.bits address

-- the row with the longest prefix that the address begins with
abbrev pub row_of : ℕ → List Row → List ℕ → Option Row
row_of width rows address = find (is_in width address) (longest_first rows)

abbrev pub leads_to : Option Row → List ℕ → Reach
leads_to None address = Global
leads_to (Some r) address = r.leads address

-- where that row leads, and Global if there is none
abbrev pub reach_in : ℕ → List Row → List ℕ → Reach
reach_in width rows address = leads_to (row_of width rows address) address

-- The address is in the row's block, and in no block of a longer prefix.
pub record IsLongest (width : ℕ) (rows : List Row) (address : List ℕ) (r : Row) : Type 0 where
  pub one : Contains rows r
  pub within : is_in width address r ≡ true
  pub longest : (s : Row) → Contains rows s → is_in width address s ≡ true → s.bits ≤ r.bits

-- The prefixes of two rows differ in length, or in the bits that count.
abbrev pub are_two : ℕ → Row → Row → Bool
are_two width r s = not (r.bits == s.bits) || not (begins_with width r.prefix r.bits (s.prefix ++ replicate 8 0))

-- No two rows have the same prefix.
abbrev pub are_distinct : ℕ → List Row → Bool
are_distinct width [] = true
are_distinct width (r ∷ rows) = list_all (are_two width r) rows && are_distinct width rows

-- ---- IPv4

-- The IANA IPv4 Special-Purpose Address Registry: the blocks that are not globally reachable, and those within them that are. Then multicast, which has
-- a registry of its own, and the blocks that follow it.
unfoldable pub ipv4_rows : List Row
ipv4_rows =
    row (0 ∷ []) 8 Reserved  -- "This network"
    ∷ row (0 ∷ 0 ∷ 0 ∷ 0 ∷ []) 32 Unspecified  -- "This host on this network"
    ∷ row (10 ∷ []) 8 Private  -- Private-Use
    ∷ row (100 ∷ 64 ∷ []) 10 Shared  -- Shared Address Space
    ∷ row (127 ∷ []) 8 Loopback  -- Loopback
    ∷ row (169 ∷ 254 ∷ []) 16 LinkLocal  -- Link Local
    ∷ row (172 ∷ 16 ∷ []) 12 Private  -- Private-Use
    ∷ row (192 ∷ 0 ∷ 0 ∷ []) 24 Reserved  -- IETF Protocol Assignments
    ∷ row (192 ∷ 0 ∷ 0 ∷ 9 ∷ []) 32 Global  -- Port Control Protocol Anycast
    ∷ row (192 ∷ 0 ∷ 0 ∷ 10 ∷ []) 32 Global  -- Traversal Using Relays around NAT Anycast
    ∷ row (192 ∷ 0 ∷ 2 ∷ []) 24 Documentation  -- Documentation (TEST-NET-1)
    ∷ row (192 ∷ 168 ∷ []) 16 Private  -- Private-Use
    ∷ row (198 ∷ 18 ∷ []) 15 Benchmarking  -- Benchmarking
    ∷ row (198 ∷ 51 ∷ 100 ∷ []) 24 Documentation  -- Documentation (TEST-NET-2)
    ∷ row (203 ∷ 0 ∷ 113 ∷ []) 24 Documentation  -- Documentation (TEST-NET-3)
    ∷ row (224 ∷ []) 4 Multicast  -- RFC 5771
    ∷ row (240 ∷ []) 4 Reserved  -- Reserved
    ∷ row (255 ∷ 255 ∷ 255 ∷ 255 ∷ []) 32 Broadcast  -- Limited Broadcast
    ∷ []

-- where an IPv4 address leads
unfoldable pub ipv4_reach : List ℕ → Reach
ipv4_reach octets = reach_in 8 ipv4_rows octets

-- ---- IPv6

-- the octets of the two segments at an index
abbrev pub octets_at : ℕ → List ℕ → List ℕ
octets_at index segments = octets_of (take 2 (drop index segments))

-- every bit inverted
abbrev pub inverted : List ℕ → List ℕ
inverted octets = map (λ octet. 255 - octet) octets

-- the second place if the first one is global, else the first
abbrev pub unless_global : Reach → Reach → Reach
unless_global Global other = other
unless_global reach other = reach

-- a row of addresses that lead where the IPv4 address in the two segments at an index does
abbrev pub embedding : List ℕ → ℕ → ℕ → Row
embedding prefix bits index = record { prefix = prefix; bits = bits; leads = λ segments. ipv4_reach (octets_at index segments) }

-- Teredo, RFC 4380, section 4: the server's address, and at the end the client's, inverted. Both have to be global.
abbrev pub teredo_reach : List ℕ → Reach
teredo_reach segments = unless_global (ipv4_reach (inverted (octets_at 6 segments))) (ipv4_reach (octets_at 2 segments))

abbrev pub teredo : List ℕ → ℕ → Row
teredo prefix bits = record { prefix = prefix; bits = bits; leads = teredo_reach }

-- The IANA IPv6 Special-Purpose Address Registry: the blocks that are not globally reachable, those within them that are, and those that embed an IPv4
-- address. IPv4-compatible, site-local and multicast addresses are of RFC 4291.
unfoldable pub ipv6_rows : List Row
ipv6_rows =
    embedding (0 ∷ 0 ∷ 0 ∷ 0 ∷ 0 ∷ 0 ∷ []) 96 6  -- IPv4-Compatible, deprecated
    ∷ row (0 ∷ 0 ∷ 0 ∷ 0 ∷ 0 ∷ 0 ∷ 0 ∷ 0 ∷ []) 128 Unspecified  -- Unspecified Address
    ∷ row (0 ∷ 0 ∷ 0 ∷ 0 ∷ 0 ∷ 0 ∷ 0 ∷ 1 ∷ []) 128 Loopback  -- Loopback Address
    ∷ embedding (0 ∷ 0 ∷ 0 ∷ 0 ∷ 0 ∷ 0xffff ∷ []) 96 6  -- IPv4-mapped Address
    ∷ embedding (0x64 ∷ 0xff9b ∷ 0 ∷ 0 ∷ 0 ∷ 0 ∷ []) 96 6  -- IPv4-IPv6 Translation
    ∷ row (0x64 ∷ 0xff9b ∷ 1 ∷ []) 48 Private  -- IPv4-IPv6 Translation, for local use
    ∷ row (0x100 ∷ 0 ∷ 0 ∷ 0 ∷ []) 64 Reserved  -- Discard-Only Address Block
    ∷ row (0x100 ∷ 0 ∷ 0 ∷ 1 ∷ []) 64 Reserved  -- Dummy IPv6 Prefix
    ∷ row (0x2001 ∷ 0 ∷ []) 23 Reserved  -- IETF Protocol Assignments
    ∷ teredo (0x2001 ∷ 0 ∷ []) 32  -- TEREDO
    ∷ row (0x2001 ∷ 1 ∷ 0 ∷ 0 ∷ 0 ∷ 0 ∷ 0 ∷ 1 ∷ []) 128 Global  -- Port Control Protocol Anycast
    ∷ row (0x2001 ∷ 1 ∷ 0 ∷ 0 ∷ 0 ∷ 0 ∷ 0 ∷ 2 ∷ []) 128 Global  -- Traversal Using Relays around NAT Anycast
    ∷ row (0x2001 ∷ 1 ∷ 0 ∷ 0 ∷ 0 ∷ 0 ∷ 0 ∷ 3 ∷ []) 128 Global  -- DNS-SD Service Registration Protocol Anycast
    ∷ row (0x2001 ∷ 2 ∷ 0 ∷ []) 48 Benchmarking  -- Benchmarking
    ∷ row (0x2001 ∷ 3 ∷ []) 32 Global  -- AMT
    ∷ row (0x2001 ∷ 4 ∷ 0x112 ∷ []) 48 Global  -- AS112-v6
    ∷ row (0x2001 ∷ 0x20 ∷ []) 28 Global  -- ORCHIDv2
    ∷ row (0x2001 ∷ 0x30 ∷ []) 28 Global  -- Drone Remote ID Protocol Entity Tags
    ∷ row (0x2001 ∷ 0xdb8 ∷ []) 32 Documentation  -- Documentation
    ∷ embedding (0x2002 ∷ []) 16 1  -- 6to4
    ∷ row (0x3fff ∷ 0 ∷ []) 20 Documentation  -- Documentation
    ∷ row (0x5f00 ∷ []) 16 Reserved  -- Segment Routing (SRv6) SIDs
    ∷ row (0xfc00 ∷ []) 7 UniqueLocal  -- Unique-Local
    ∷ row (0xfe80 ∷ []) 10 LinkLocal  -- Link-Local Unicast
    ∷ row (0xfec0 ∷ []) 10 Reserved  -- site-local, deprecated
    ∷ row (0xff00 ∷ []) 8 Multicast  -- multicast
    ∷ []

-- where an IPv6 address leads
unfoldable pub ipv6_reach : List ℕ → Reach
ipv6_reach segments = reach_in 16 ipv6_rows segments

-- where an address of either kind leads
abbrev pub ip_reach : IpAddr → Reach
ip_reach (V4 octets) = ipv4_reach octets
ip_reach (V6 segments) = ipv6_reach segments

-- where the address that a text spells leads
abbrev pub reach_of : List ℕ → Option Reach
reach_of text = option_or (option_map ipv4_reach (ipv4_reading text)) (option_map ipv6_reach (ipv6_reading text))
