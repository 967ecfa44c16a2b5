-- The spellings of an address (RFC 3986, section 3.2.2), how a text is read, and the spelling that is printed
-- (RFC 5952). An IPv4 address is seen as its four octets, an IPv6 address as its eight segments.
use Rattle.std.specs.Prelude.{◌≡◌, ℕ, ◌+◌, ◌-◌, ◌^◌, ◌<◌, ◌≤◌, ◌⊎◌, Bool, ◌||◌, ◌==◌, List, [], ◌∷◌, ◌++◌, Option, length, take, drop, slice_index, replicate}
use Rattle.std.specs.Prelude.{codes}
use Rattle.std.specs.Char.{is_ascii_digit}
use Rattle.std.specs.Net.Addr.{segments_of, octets_of, IsIpv4Mapped}
use Rattle.std.specs.Net.Grammar.{IsGroup, IsNumber}
use Rattle.std.specs.Net.Reader.{read_ipv4, read_ipv6, whole_value}
use Rattle.std.specs.Net.Text as net
use Rattle.uriparse_text.specs.Bytes.{is_hex, dot, colon}

-- four octets
pub record IsOctets (octets : List ℕ) : Type 0 where
  pub four : length octets ≡ 4
  pub fit : (k : ℕ) → slice_index octets k < 2 ^ 8

-- eight segments of 16 bits
pub record IsSegments (segments : List ℕ) : Type 0 where
  pub eight : length segments ≡ 8
  pub fit : (k : ℕ) → slice_index segments k < 2 ^ 16

-- `0` to `9` or `.`, which an IPv4 spelling is made of
abbrev pub is_ipv4_byte : ℕ → Bool
is_ipv4_byte b = is_ascii_digit b || b == dot

-- a hexadecimal digit of either case, `:` or `.`, which an IPv6 spelling is made of
abbrev pub is_ipv6_byte : ℕ → Bool
is_ipv6_byte b = is_hex b || b == colon || b == dot

-- the printed text of an IPv4 address: its octets in decimal with no leading zeros, and dots between them
abbrev pub ipv4_text : List ℕ → List ℕ
ipv4_text octets = net.ipv4_text octets

-- the printed text of an IPv6 address; IsPrintedIpv6 below says which of its spellings that is
abbrev pub ipv6_text : List ℕ → List ℕ
ipv6_text segments = net.ipv6_text segments

-- ---- the grammar

-- dec-octet: digits that write a number up to 255, the first of several no zero
pub record IsDecOctet (text : List ℕ) (n : ℕ) : Type 0 where
  pub number : IsNumber 10 text n
  pub alone : slice_index text 0 ≡ 48 → length text ≡ 1
  pub fits : n ≤ 255

-- four texts with dots between them
abbrev pub with_dots : List ℕ → List ℕ → List ℕ → List ℕ → List ℕ
with_dots first second third fourth = first ++ codes "." ++ second ++ codes "." ++ third ++ codes "." ++ fourth

-- IPv4address = dec-octet "." dec-octet "." dec-octet "." dec-octet
pub record SpellsIpv4 (text octets : List ℕ) : Type 0 where
  pub first : List ℕ
  pub second : List ℕ
  pub third : List ℕ
  pub fourth : List ℕ
  pub a : ℕ
  pub b : ℕ
  pub c : ℕ
  pub d : ℕ
  pub whole : text ≡ with_dots first second third fourth
  pub is_first : IsDecOctet first a
  pub is_second : IsDecOctet second b
  pub is_third : IsDecOctet third c
  pub is_fourth : IsDecOctet fourth d
  pub value : octets ≡ a ∷ b ∷ c ∷ d ∷ []

-- h16 = 1*4HEXDIG, which writes n in hexadecimal
abbrev pub IsH16 : List ℕ → ℕ → Type 0
IsH16 text n = IsGroup text n

-- *( h16 ":" ), which writes these groups
abbrev pub AreH16Colons : List ℕ → List ℕ → Type 0
AreH16Colons text [] = text ≡ []
AreH16Colons text (n ∷ groups) =
    (group rest : List ℕ) × (text ≡ group ++ (codes ":" ++ rest)) × IsH16 group n
    × AreH16Colons rest groups

-- ls32 = ( h16 ":" h16 ) / IPv4address
abbrev pub IsLs32 : List ℕ → ℕ → ℕ → Type 0
IsLs32 text high low =
    ((left right : List ℕ) × (text ≡ left ++ (codes ":" ++ right)) × IsH16 left high × IsH16 right low)
    ⊎ ((octets : List ℕ) × SpellsIpv4 text octets × (segments_of octets ≡ high ∷ low ∷ []))

-- *( h16 ":" ) ls32
pub record EndsInLs32 (text segments : List ℕ) : Type 0 where
  pub front : List ℕ
  pub last : List ℕ
  pub groups : List ℕ
  pub high : ℕ
  pub low : ℕ
  pub whole : text ≡ front ++ last
  pub is_front : AreH16Colons front groups
  pub is_last : IsLs32 last high low
  pub value : segments ≡ groups ++ high ∷ low ∷ []

-- *( h16 ":" ) h16
pub record EndsInH16 (text segments : List ℕ) : Type 0 where
  pub front : List ℕ
  pub last : List ℕ
  pub groups : List ℕ
  pub low : ℕ
  pub whole : text ≡ front ++ last
  pub is_front : AreH16Colons front groups
  pub is_last : IsH16 last low
  pub value : segments ≡ groups ++ low ∷ []

-- nothing
abbrev pub IsNothing : List ℕ → List ℕ → Type 0
IsNothing text segments = (text ≡ []) × (segments ≡ [])

-- before "::": [ *( h16 ":" ) h16 ]
abbrev pub IsHead : List ℕ → List ℕ → Type 0
IsHead text segments = IsNothing text segments ⊎ EndsInH16 text segments

-- after "::": nothing, h16, or *( h16 ":" ) ls32
abbrev pub IsTail : List ℕ → List ℕ → Type 0
IsTail text segments =
    IsNothing text segments
    ⊎ (((n : ℕ) × IsH16 text n × (segments ≡ n ∷ [])) ⊎ EndsInLs32 text segments)

-- `::` stands for the missing zero groups, at least one
pub record IsShortened (text segments : List ℕ) : Type 0 where
  pub head_text : List ℕ
  pub tail_text : List ℕ
  pub head : List ℕ
  pub tail : List ℕ
  pub whole : text ≡ head_text ++ (codes "::" ++ tail_text)
  pub is_head : IsHead head_text head
  pub is_tail : IsTail tail_text tail
  pub room : length head + length tail ≤ 7
  pub value : segments ≡ head ++ (replicate (8 - length head - length tail) 0 ++ tail)

-- IPv6address: 6( h16 ":" ) ls32, or one of the eight forms with `::`, in which the groups before it
-- and after it are together at most seven
abbrev pub SpellsIpv6 : List ℕ → List ℕ → Type 0
SpellsIpv6 text segments =
    (EndsInLs32 text segments × (length segments ≡ 8)) ⊎ IsShortened text segments

-- ---- reading

-- the octets of the IPv4 address that the whole text spells, if it spells one
unfoldable pub ipv4_reading : List ℕ → Option (List ℕ)
ipv4_reading text = whole_value (read_ipv4 text)

-- the segments of the IPv6 address that the whole text spells, if it spells one
unfoldable pub ipv6_reading : List ℕ → Option (List ℕ)
ipv6_reading text = whole_value (read_ipv6 text)

-- ---- printing

-- len zero groups stand at start
abbrev pub IsZeroRun : List ℕ → ℕ → ℕ → Type 0
IsZeroRun segments start len =
    (start + len ≤ length segments) × (take len (drop start segments) ≡ replicate len 0)

-- the first of the longest runs of zero groups
pub record IsFirstLongestRun (segments : List ℕ) (start len : ℕ) : Type 0 where
  pub is_run : IsZeroRun segments start len
  pub longest : (other n : ℕ) → IsZeroRun segments other n → n ≤ len
  pub first : (other : ℕ) → IsZeroRun segments other len → start ≤ other

-- `::` stands for that run, of two groups or more
pub record IsPrintedShort (segments text : List ℕ) : Type 0 where
  pub start : ℕ
  pub len : ℕ
  pub run : IsFirstLongestRun segments start len
  pub two : 2 ≤ len
  pub whole : text
      ≡ net.groups_text (take start segments)
      ++ (codes "::" ++ net.groups_text (drop (start + len) segments))

-- how an address is printed: `::ffff:` and a dotted address for ::ffff:x:y; else groups in lower case with
-- no leading zeros, shortened where two zero groups stand together
abbrev pub IsPrintedIpv6 : List ℕ → List ℕ → Type 0
IsPrintedIpv6 segments text =
    (IsIpv4Mapped segments × (text ≡ codes "::ffff:" ++ ipv4_text (octets_of (drop 6 segments))))
    ⊎ (¬ (IsIpv4Mapped segments)
    × (IsPrintedShort segments text
    ⊎ (((start : ℕ) → ¬ (IsZeroRun segments start 2)) × (text ≡ net.groups_text segments))))
