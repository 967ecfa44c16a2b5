-- How the address of a text is read: the grammar and the readers have the same texts, no text spells two
-- addresses, and the printed text of an address is one of its spellings.
use Rattle.std.proofs.Common.{◌≡◌, ◌↔◌, ℕ, List, [], ◌∷◌, ◌++◌, Option, Some, None, length, sym, ap, ◌∙◌, refl, subst, append-nil, lit≤, ne_eqb, arith}
use Rattle.std.specs.Net.Grammar.{IsDotted, IsColonHex}
use Rattle.std.specs.Net.Reader.{Read, read_ipv4, read_ipv6, whole_value}
use Rattle.std.proofs.lemmas.Option.{none-some, same_Some}
use Rattle.std.proofs.NetLemmas.Ipv4.{read_ipv4_complete, read_ipv4_sound}
use Rattle.std.proofs.NetLemmas.Ipv6.{read_ipv6_complete, read_ipv6_sound, EndsGroups-nil, IsDotted-not_colon_hex}
use Rattle.std.proofs.NetLemmas.Texts.{IsColonHex-ipv6_text}
use Rattle.uriparse_text.specs.Address.{IsOctets, IsSegments, ipv4_text, ipv6_text, SpellsIpv4, SpellsIpv6, ipv4_reading, ipv6_reading}
use Rattle.uriparse_text.proofs.lemmas.addresses.GrammarLemmas.{spells_from_colon_hex, colon_hex_from_spells}
use Rattle.uriparse_text.proofs.lemmas.addresses.Ipv4Lemmas.{spells_from_dotted, dotted_from_spells}
pub use Rattle.uriparse_text.proofs.lemmas.addresses.Ipv4Lemmas.{SpellsIpv4-ipv4_text}

-- ---- exact readings

-- a whole text that was read leaves nothing after it
whole_read : (r : Read (List ℕ)) (a : List ℕ) → whole_value r ≡ Some a → r ≡ Some (a, [])
whole_read None a h = absurd (none-some a h)
whole_read (Some (x, [])) a h = ap (λ y. Some (y, [])) (same_Some x a h)
whole_read (Some (x, c ∷ rest)) a h =
    absurd (none-some a (rw (ne_eqb (length (c ∷ rest)) 0 (omega arith)) at h))

-- the text that was read is the whole text
whole_text : (P : List ℕ → Type 0) (text : List ℕ) → (front : List ℕ) × (text ≡ front ++ []) × P front → P text
whole_text P text (front, whole, h) = subst P (sym (whole ∙ append-nil front)) h

pub ipv4_reading-spelled : (text a : List ℕ) → SpellsIpv4 text a → ipv4_reading text ≡ Some a
unfolding ipv4_reading
ipv4_reading-spelled text a h =
    ap whole_value (ap read_ipv4 (sym (append-nil text)) ∙ read_ipv4_complete text a [] (dotted_from_spells text a h) (lit≤ tt))

pub ipv4_reading-found : (text a : List ℕ) → ipv4_reading text ≡ Some a → SpellsIpv4 text a
unfolding ipv4_reading
ipv4_reading-found text a h =
    spells_from_dotted text a (whole_text (λ t. IsDotted t a) text (read_ipv4_sound text a [] (whole_read (read_ipv4 text) a h)))

-- the reading of a text is the IPv4 address that it spells
pub ipv4_reading-exact : (text a : List ℕ) → (ipv4_reading text ≡ Some a) ↔ SpellsIpv4 text a
ipv4_reading-exact text a = (ipv4_reading-found text a, ipv4_reading-spelled text a)

pub ipv6_reading-spelled : (text a : List ℕ) → SpellsIpv6 text a → ipv6_reading text ≡ Some a
unfolding ipv6_reading
ipv6_reading-spelled text a h =
    ap whole_value (ap read_ipv6 (sym (append-nil text)) ∙ read_ipv6_complete text a [] (colon_hex_from_spells text a h) EndsGroups-nil)

pub ipv6_reading-found : (text a : List ℕ) → ipv6_reading text ≡ Some a → SpellsIpv6 text a
unfolding ipv6_reading
ipv6_reading-found text a h =
    spells_from_colon_hex text a (whole_text (λ t. IsColonHex t a) text (read_ipv6_sound text a [] (whole_read (read_ipv6 text) a h)))

-- the reading of a text is the IPv6 address that it spells
pub ipv6_reading-exact : (text a : List ℕ) → (ipv6_reading text ≡ Some a) ↔ SpellsIpv6 text a
ipv6_reading-exact text a = (ipv6_reading-found text a, ipv6_reading-spelled text a)

-- a reading that finds no spelling is none
nothing_found : (Spells : List ℕ → Type 0) (o : Option (List ℕ)) → ((a : List ℕ) → o ≡ Some a → Spells a) → ((a : List ℕ) → ¬ (Spells a)) → o ≡ None
nothing_found Spells None found never = refl
nothing_found Spells (Some a) found never = absurd (never a (found a refl))

pub ipv4_reading-none : (text : List ℕ) → ((a : List ℕ) → ¬ (SpellsIpv4 text a)) → ipv4_reading text ≡ None
ipv4_reading-none text never = nothing_found (SpellsIpv4 text) (ipv4_reading text) (ipv4_reading-found text) never

pub ipv6_reading-none : (text : List ℕ) → ((a : List ℕ) → ¬ (SpellsIpv6 text a)) → ipv6_reading text ≡ None
ipv6_reading-none text never = nothing_found (SpellsIpv6 text) (ipv6_reading text) (ipv6_reading-found text) never

-- ---- one address a text

pub SpellsIpv4-unique : (text a b : List ℕ) → SpellsIpv4 text a → SpellsIpv4 text b → a ≡ b
SpellsIpv4-unique text a b h k = same_Some a b (sym (ipv4_reading-spelled text a h) ∙ ipv4_reading-spelled text b k)

pub SpellsIpv6-unique : (text a b : List ℕ) → SpellsIpv6 text a → SpellsIpv6 text b → a ≡ b
SpellsIpv6-unique text a b h k = same_Some a b (sym (ipv6_reading-spelled text a h) ∙ ipv6_reading-spelled text b k)

pub SpellsIpv4-not_ipv6 : (text a b : List ℕ) → SpellsIpv4 text a → ¬ (SpellsIpv6 text b)
SpellsIpv4-not_ipv6 text a b h k =
    IsDotted-not_colon_hex text a b (dotted_from_spells text a h) (colon_hex_from_spells text b k)

-- ---- printed texts

pub SpellsIpv6-ipv6_text : (a : List ℕ) → IsSegments a → SpellsIpv6 (ipv6_text a) a
SpellsIpv6-ipv6_text a h = spells_from_colon_hex (ipv6_text a) a (IsColonHex-ipv6_text a h.eight h.fit)

-- addresses with one printed text are equal
pub ipv4_text-injective : (a b : List ℕ) → IsOctets a → IsOctets b → ipv4_text a ≡ ipv4_text b → a ≡ b
ipv4_text-injective a b h k e =
    SpellsIpv4-unique (ipv4_text b) a b (subst (λ t. SpellsIpv4 t a) e (SpellsIpv4-ipv4_text a h)) (SpellsIpv4-ipv4_text b k)

pub ipv6_text-injective : (a b : List ℕ) → IsSegments a → IsSegments b → ipv6_text a ≡ ipv6_text b → a ≡ b
ipv6_text-injective a b h k e =
    SpellsIpv6-unique (ipv6_text b) a b (subst (λ t. SpellsIpv6 t a) e (SpellsIpv6-ipv6_text a h)) (SpellsIpv6-ipv6_text b k)

-- and of one kind
pub ipv4_text-not_ipv6_text : (a b : List ℕ) → IsOctets a → IsSegments b → ¬ (ipv4_text a ≡ ipv6_text b)
ipv4_text-not_ipv6_text a b h k e =
    SpellsIpv4-not_ipv6 (ipv4_text a) a b (SpellsIpv4-ipv4_text a h) (subst (λ t. SpellsIpv6 t b) (sym e) (SpellsIpv6-ipv6_text b k))
