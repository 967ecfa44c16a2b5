-- The spellings of an IPv4 address by the grammar are one: its printed text.
use Rattle.std.proofs.Common.{◌≡◌, ℕ, zero, suc, ◌^◌, ◌<◌, ◌≤◌, List, [], ◌∷◌, length, get_or, decimal, refl, sym, ap, ◌∙◌, arith}
use Rattle.std.specs.Str.Parse.{digits_value}
use Rattle.std.specs.Net.Grammar.{IsDotted}
use Rattle.std.proofs.lemmas.Fmt.{decimal_is_IsNumeral, decimal_nonempty, length-decimal-le, first_decimal, decimal-digits_value}
use Rattle.std.proofs.lemmas.Str.Parse.{numerals_by_value, tells_digits}
use Rattle.std.proofs.NetLemmas.Texts.{IsDotted-ipv4_text}
use Rattle.uriparse_text.specs.Address.{IsOctets, IsDecOctet, with_dots, SpellsIpv4, ipv4_text}

-- ---- one octet

octet_text : (t : List ℕ) (n : ℕ) → IsDecOctet t n → t ≡ decimal n
octet_text t n h =
    let value = h.number.1 in
    let fits = h.fits in
    let small : digits_value 10 t < 2 ^ 64 = omega (arith, value, fits) in
    sym (decimal-digits_value (numerals_by_value _ tells_digits) t h.number.0.1 h.number.0.0 h.alone small) ∙ ap decimal value

alone_zero : (n : ℕ) → n < 256 → get_or (decimal n) 0 0 ≡ 48 → length (decimal n) ≡ 1
alone_zero zero h e = omega (arith, decimal_nonempty 0 (omega arith), length-decimal-le 1 0 (omega arith) (omega arith) (omega arith))
alone_zero (suc n) h e = absurd (omega (arith, first_decimal (suc n) (omega arith) (omega arith), e))

octet_decimal : (n : ℕ) → n < 256 → IsDecOctet (decimal n) n
octet_decimal n h = record { number = decimal_is_IsNumeral n (omega arith); alone = alone_zero n h; fits = omega arith }

-- ---- four of them

pub spells_from_dotted : (text octets : List ℕ) → IsDotted text octets → SpellsIpv4 text octets
spells_from_dotted text octets h = record {
  first = decimal h.a;
  second = decimal h.b;
  third = decimal h.c;
  fourth = decimal h.d;
  a = h.a;
  b = h.b;
  c = h.c;
  d = h.d;
  whole = h.spelled;
  is_first = octet_decimal h.a h.fit.0;
  is_second = octet_decimal h.b h.fit.1;
  is_third = octet_decimal h.c h.fit.2;
  is_fourth = octet_decimal h.d h.fit.3;
  value = h.value;
}

below : (n : ℕ) → n ≤ 255 → n < 256
below n h = omega (arith, h)

pub dotted_from_spells : (text octets : List ℕ) → SpellsIpv4 text octets → IsDotted text octets
dotted_from_spells text octets h = record {
  a = h.a;
  b = h.b;
  c = h.c;
  d = h.d;
  fit = (below h.a h.is_first.fits, below h.b h.is_second.fits, below h.c h.is_third.fits, below h.d h.is_fourth.fits);
  value = h.value;
  spelled =
      h.whole
      ∙ ap (λ t. with_dots t h.second h.third h.fourth) (octet_text h.first h.a h.is_first)
      ∙ ap (λ t. with_dots (decimal h.a) t h.third h.fourth) (octet_text h.second h.b h.is_second)
      ∙ ap (λ t. with_dots (decimal h.a) (decimal h.b) t h.fourth) (octet_text h.third h.c h.is_third)
      ∙ ap (λ t. with_dots (decimal h.a) (decimal h.b) (decimal h.c) t) (octet_text h.fourth h.d h.is_fourth);
}

four_fit : (a b c d k : ℕ) → (a < 256) × (b < 256) × (c < 256) × (d < 256) → get_or (a ∷ b ∷ c ∷ d ∷ []) k 0 < 2 ^ 8
four_fit a b c d zero h = omega arith
four_fit a b c d (suc zero) h = omega arith
four_fit a b c d (suc (suc zero)) h = omega arith
four_fit a b c d (suc (suc (suc zero))) h = omega arith
four_fit a b c d (suc (suc (suc (suc k)))) h = omega arith

pub IsOctets-SpellsIpv4 : (text octets : List ℕ) → SpellsIpv4 text octets → IsOctets octets
IsOctets-SpellsIpv4 text octets s =
    let h = dotted_from_spells text octets s in
    rw h.value (record { four = refl; fit = λ k. four_fit h.a h.b h.c h.d k h.fit })

-- the printed text is the one spelling
pub printed_alone : (text octets : List ℕ) → SpellsIpv4 text octets → text ≡ ipv4_text octets
printed_alone text octets s = let h = dotted_from_spells text octets s in h.spelled ∙ sym (ap ipv4_text h.value)

pub SpellsIpv4-ipv4_text : (octets : List ℕ) → IsOctets octets → SpellsIpv4 (ipv4_text octets) octets
SpellsIpv4-ipv4_text octets h = spells_from_dotted (ipv4_text octets) octets (IsDotted-ipv4_text octets h.four h.fit)
