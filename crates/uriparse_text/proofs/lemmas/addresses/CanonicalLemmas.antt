-- The printed text of an address is its own canonical spelling.
use Rattle.std.proofs.Common.{◌≡◌, ℕ, zero, suc, ◌^◌, ◌<◌, Bool, true, not, ◌&&◌, List, [], ◌∷◌, ◌++◌, get_or, take, drop, map, flat_map, All, refl, ap, ◌∙◌}
use Rattle.std.proofs.Common.{arith}
use Rattle.std.specs.Prelude.{◌==◌, bytes_eq, codes}
use Rattle.std.specs.Char.{to_ascii_lowercase}
use Rattle.std.specs.List.{list_all}
use Rattle.std.specs.Net.Addr.{octets_of}
use Rattle.std.specs.Net.Text as net
use Rattle.std.proofs.lemmas.Bool.{and_parts, and_from, cond_both, eqb-true}
use Rattle.std.proofs.lemmas.Bool.Decides.{nat_tests}
use Rattle.std.proofs.lemmas.List.Folds.{list_all-append}
use Rattle.std.proofs.lemmas.List.Elements.{All-weaker}
use Rattle.std.proofs.lemmas.List.Sums.{list_all-from_AllPass}
use Rattle.std.proofs.NetLemmas.Alphabet.{IsDigitOrDot, IsHexOrColon, All-ipv4_text, All-hex_groups_text}
use Rattle.std.proofs.NetLemmas.Texts.{AllSegments, AllSegments-drop}
use Rattle.uriparse_text.specs.declared.internal.token.Token.TheVariants.{Byte}
use Rattle.uriparse_text.specs.declared.internal.token.Case.{Case}
use Rattle.uriparse_text.specs.declared.internal.token.Case.TheVariants.{Kept, Lowered}
use Rattle.uriparse_text.specs.Bytes.{percent, left_bracket, right_bracket}
use Rattle.uriparse_text.specs.Tokens.{spell}
use Rattle.uriparse_text.specs.Canonical.{canonical_token, in_case, canonical_in}
use Rattle.uriparse_text.specs.Address.{IsOctets, IsSegments, ipv4_text, ipv6_text}
use Rattle.uriparse_text.proofs.lemmas.tokens.TokenLemmas.{tokens-nil, tokens-spell}

-- ---- texts that are their own canonical spelling

-- a byte that begins no escape, and is no upper-case letter
abbrev is_small : ℕ → Bool
is_small b = not (b == percent) && (to_ascii_lowercase b == b)

in_case-small : (case : Case) (b : ℕ) → (to_ascii_lowercase b == b) ≡ true → in_case case b ≡ b
in_case-small Kept b h = refl
in_case-small Lowered b h = eqb-true (to_ascii_lowercase b) b h

canonical_in-small : (case : Case) (text : List ℕ) → list_all is_small text ≡ true → canonical_in case text ≡ text
unfolding canonical_in
canonical_in-small case [] h = ap (λ ts. flat_map spell (map (canonical_token case) ts)) tokens-nil
canonical_in-small case (b ∷ text) h =
    let both = and_parts (is_small b) (list_all is_small text) h in
    let small = and_parts (not (b == percent)) (to_ascii_lowercase b == b) both.0 in
    ap (λ ts. flat_map spell (map (canonical_token case) ts)) (tokens-spell (Byte b) text small.0)
    ∙ ap (λ x. x ∷ canonical_in case text) (in_case-small case b small.1)
    ∙ ap (λ t. b ∷ t) (canonical_in-small case text both.1)

-- ---- printed addresses

small_digit_or_dot : (b : ℕ) → IsDigitOrDot b → is_small b ≡ true
small_digit_or_dot b h = grind (arith, nat_tests)

small_hex_or_colon : (b : ℕ) → IsHexOrColon b → is_small b ≡ true
small_hex_or_colon b h = grind (arith, nat_tests)

all_small : (P : ℕ → Type 0) → ((b : ℕ) → P b → is_small b ≡ true) → (text : List ℕ) → All P text → list_all is_small text ≡ true
all_small P weaker text h = list_all-from_AllPass is_small text (All-weaker P (λ b. is_small b ≡ true) weaker text h)

small-ipv4_text : (octets : List ℕ) → ((k : ℕ) → get_or octets k 0 < 2 ^ 8) → list_all is_small (ipv4_text octets) ≡ true
small-ipv4_text octets fit = all_small IsDigitOrDot small_digit_or_dot (ipv4_text octets) (All-ipv4_text octets fit)

-- the octets of segments fit
octets_fit : (segments : List ℕ) → AllSegments segments → (k : ℕ) → get_or (octets_of segments) k 0 < 2 ^ 8
octets_fit [] h k = omega arith
octets_fit (s ∷ segments) h zero = let first : s < 2 ^ 16 = h 0 in omega arith
octets_fit (s ∷ segments) h (suc zero) = omega arith
octets_fit (s ∷ segments) h (suc (suc k)) = octets_fit segments (λ j. h (suc j)) k

-- a dotted address after `::ffff:`, or groups
small-ipv6_text : (segments : List ℕ) → AllSegments segments → list_all is_small (ipv6_text segments) ≡ true
unfolding net.ipv6_text
small-ipv6_text segments fit =
    let embedded = octets_of (drop 6 segments) in
    cond_both (bytes_eq (take 6 segments) (0 ∷ 0 ∷ 0 ∷ 0 ∷ 0 ∷ 0xffff ∷ [])) (codes "::ffff:" ++ ipv4_text embedded) (net.hex_groups_text segments)
    (λ text. list_all is_small text ≡ true)
    (λ mapped. small-ipv4_text embedded (octets_fit (drop 6 segments) (AllSegments-drop 6 segments fit)))
    (λ other. all_small IsHexOrColon small_hex_or_colon (net.hex_groups_text segments) (All-hex_groups_text segments fit))

pub canonical_in-ipv4_text : (case : Case) (a : List ℕ) → IsOctets a → canonical_in case (ipv4_text a) ≡ ipv4_text a
canonical_in-ipv4_text case a h = canonical_in-small case (ipv4_text a) (small-ipv4_text a h.fit)

pub canonical_in-ipv6_text : (case : Case) (a : List ℕ) → IsSegments a → canonical_in case (ipv6_text a) ≡ ipv6_text a
canonical_in-ipv6_text case a h = canonical_in-small case (ipv6_text a) (small-ipv6_text a h.fit)

-- and so it is between brackets
pub canonical_in-bracketed : (case : Case) (a : List ℕ) → IsSegments a
    → canonical_in case (left_bracket ∷ ipv6_text a ++ right_bracket ∷ []) ≡ left_bracket ∷ ipv6_text a ++ right_bracket ∷ []
canonical_in-bracketed case a h =
    canonical_in-small case (left_bracket ∷ ipv6_text a ++ right_bracket ∷ [])
    (list_all-append is_small (ipv6_text a) (right_bracket ∷ []) ∙ and_from _ _ (small-ipv6_text a h.fit) refl)
