-- How long the printed text of an address is at most.
use Rattle.std.proofs.Common.{◌≡◌, ℕ, zero, suc, ◌+◌, ◌-◌, ◌*◌, ◌^◌, ◌<◌, ◌≤◌}
use Rattle.std.proofs.Common.{List, [], ◌∷◌, ◌++◌, length, get_or, take, drop, flat_map, decimal, codes, inl, inr, ap, arith, length-take-le, length-drop}
use Rattle.std.proofs.lemmas.List.{length-append}
use Rattle.std.proofs.lemmas.Fmt.{length-decimal-le}
use Rattle.std.proofs.NetLemmas.Arrays.{eight_items}
use Rattle.std.specs.Net.Addr.{octets_of}
use Rattle.std.specs.Net.Text.{hex, groups_text}
use Rattle.uriparse_text.specs.Address.{IsSegments, IsPrintedShort, IsPrintedIpv6, ipv4_text, ipv6_text}
use Rattle.uriparse_text.proofs.lemmas.addresses.PrintedLemmas.{IsPrintedIpv6-ipv6_text}

-- ---- IPv4

decimal_short : (n : ℕ) → n < 2 ^ 8 → length (decimal n) ≤ 3
decimal_short n h = length-decimal-le 3 n (omega arith) (omega arith) (omega arith)

pub length-ipv4_text : (a : List ℕ) → ((k : ℕ) → get_or a k 0 < 2 ^ 8) → length (ipv4_text a) ≤ 15
length-ipv4_text a fit =
    let p = decimal_short (get_or a 0 0) (fit 0) in
    let q = decimal_short (get_or a 1 0) (fit 1) in
    let r = decimal_short (get_or a 2 0) (fit 2) in
    let s = decimal_short (get_or a 3 0) (fit 3) in
    simp length-append (omega arith)

-- ---- IPv6

length-hex : (n : ℕ) → length (hex n) ≤ 4
unfolding hex
length-hex n = simp length-drop (omega arith)

length-colon_groups : (a : List ℕ) → length (flat_map (λ s. codes ":" ++ hex s) a) ≤ 5 * length a
length-colon_groups [] = omega arith
length-colon_groups (s ∷ a) =
    let first = length-hex s in
    let later = length-colon_groups a in
    simp length-append (omega arith)

length-groups_text : (a : List ℕ) → length (groups_text a) ≤ 5 * length a - 1
length-groups_text [] = omega arith
length-groups_text (s ∷ a) =
    let first = length-hex s in
    let later = length-colon_groups a in
    simp length-append (omega arith)

-- the octets of the last two segments
tail_fits : (g h : ℕ) → g < 2 ^ 16 → h < 2 ^ 16 → (k : ℕ) → get_or (octets_of (g ∷ h ∷ [])) k 0 < 2 ^ 8
tail_fits g h high low zero = omega arith
tail_fits g h high low (suc zero) = omega arith
tail_fits g h high low (suc (suc zero)) = omega arith
tail_fits g h high low (suc (suc (suc zero))) = omega arith
tail_fits g h high low (suc (suc (suc (suc k)))) = omega arith

mapped_short : (t : List ℕ) → length t ≤ 15 → length (codes "::ffff:" ++ t) ≤ 39
mapped_short t short = omega arith

length-mapped : (a : List ℕ) → IsSegments a → length (codes "::ffff:" ++ ipv4_text (octets_of (drop 6 a))) ≤ 39
length-mapped a is =
    let tail : drop 6 a ≡ get_or a 6 0 ∷ get_or a 7 0 ∷ [] = ap (λ t. drop 6 t) (eight_items a is.eight) in
    let octets = octets_of (get_or a 6 0 ∷ get_or a 7 0 ∷ []) in
    rw tail (mapped_short (ipv4_text octets) (length-ipv4_text octets (tail_fits (get_or a 6 0) (get_or a 7 0) (is.fit 6) (is.fit 7))))

length-shortened : (a text : List ℕ) → length a ≡ 8 → IsPrintedShort a text → length text ≤ 39
length-shortened a text eight is =
    let head = length-groups_text (take is.start a) in
    let tail = length-groups_text (drop (is.start + is.len) a) in
    let within = is.run.is_run.0 in
    let two = is.two in
    let m = length-take-le is.start a (omega arith) in
    let n = length-drop (is.start + is.len) a in
    rw is.whole (simp length-append (omega arith))

length-printed : (a text : List ℕ) → IsSegments a → IsPrintedIpv6 a text → length text ≤ 39
length-printed a text is (inl mapped) = rw mapped.1 (length-mapped a is)
length-printed a text is (inr (other, inl short)) = length-shortened a text is.eight short
length-printed a text is (inr (other, inr long)) =
    let eight = is.eight in
    let groups = length-groups_text a in
    rw long.1 (omega arith)

pub length-ipv6_text : (a : List ℕ) → IsSegments a → length (ipv6_text a) ≤ 39
length-ipv6_text a is = length-printed a (ipv6_text a) is (IsPrintedIpv6-ipv6_text a)
