-- The URL Standard reads the host that RFC 3986 reads, if readers have no reason to disagree.
use Rattle.std.proofs.Common.{◌≡◌, ℕ, zero, suc, ◌+◌, ◌*◌, ◌<◌, ◌≤◌, Bool, true, false, cond, not, List, [], ◌∷◌, ◌++◌, length, take, map, Option, Some, None, refl, sym, ap, ◌∙◌, subst, arith, append_assoc, append-nil, ◌^◌}
use Rattle.std.specs.Prelude.{◌==◌, ◌&&◌, ◌||◌, nat_le, nat_lt, bytes_eq, codes, is_some, slice_index}
use Rattle.std.specs.Char.{is_digit, digit_value, to_ascii_lowercase}
use Rattle.std.specs.List.{list_any, list_all, slice_split, onto_first}
use Rattle.std.specs.Option.{option_and_then, option_map}
use Rattle.std.specs.Str.{str_to_ascii_lowercase}
use Rattle.std.specs.Str.Parse.{digits_value, AllDigits}
use Rattle.std.proofs.lemmas.Bool.{and_parts, and_from, not-true, false≢true}
use Rattle.std.proofs.lemmas.Bool.Decides.{nat_tests}
use Rattle.uriparse_text.specs.declared.internal.class.Class.TheVariants as class
use Rattle.uriparse_text.specs.Address.{IsDecOctet, SpellsIpv4, SpellsIpv6, ipv6_reading, is_ipv4_byte, with_dots}
use Rattle.uriparse_text.specs.Bytes.{dot, is_among, left_bracket, percent, is_unreserved, is_sub_delim, is_hex}
use Rattle.uriparse_text.specs.Canonical.{canonical_lowered}
use Rattle.uriparse_text.specs.Classes.{is_plain}
use Rattle.uriparse_text.specs.Coding.{decoded}
use Rattle.uriparse_text.specs.Cuts.{lacks}
use Rattle.uriparse_text.proofs.lemmas.addresses.ByteLemmas.{SpellsIpv4-bytes, lacks-SpellsIpv4}
use Rattle.uriparse_text.proofs.lemmas.addresses.ReadingLemmas.{ipv6_reading-spelled}
use Rattle.uriparse_text.proofs.lemmas.classes.ClassLemmas.{bytes-in_class}
use Rattle.uriparse_text.proofs.lemmas.tokens.CodingLemmas.{decoded-byte, decoded-nil}
use Rattle.uriparse_text.proofs.lemmas.tokens.UnescapedLemmas.{canonical_lowered-plain}
use Rattle.uriparse_authority.specs.Host as host
use Rattle.uriparse_authority.specs.Host.{bracketed, in_brackets}
use Rattle.uriparse_authority.specs.Name.{IsName}
use Rattle.uriparse_authority.specs.Port.{are_digits}
use Rattle.uriparse_authority.specs.Within.{begins_with_digit, has_escape, is_dot, is_percent, labels, last_label, may_be_numeric, without_end_dot}
use Rattle.uriparse_authority.specs.declared.authority.host.Host.{Host}
use Rattle.uriparse_authority.specs.declared.authority.host.Host.TheVariants.{IPv4Address, IPv6Address, IPvFuture, RegisteredName}
use Rattle.uriparse_authority.proofs.lemmas.authorities.UserLemmas.{username_lacks}
use Rattle.uriparse_authority.proofs.lemmas.hosts.EndDotLemmas.{address_end}
use Rattle.uriparse_authority.proofs.lemmas.hosts.HostLemmas.{brackets_exactly}
use Rattle.uriparse_authority.proofs.lemmas.hosts.WithinLemmas.{IsCut, LacksDot, cut, pieces-front}
use Rattle.uriparse.specs.Disagreement.{is_future, is_name}
use Rattle.uriparse.specs.Web.{WebHost, Domain, Ipv4, Ipv6, as_web, bytes_value, ends_in_number, has_encoded_label, ipv4_number, ipv4_numbers, ipv4_value, is_encoded_label, is_forbidden, is_number, number_in, of_domain, to_ascii, web_host, web_ipv4}

-- ---- names without escapes

-- no byte is "%"
pub no_percent : (n : List ℕ) → has_escape n ≡ false → lacks percent n ≡ true
no_percent [] h = refl
no_percent (b ∷ n) h = by_test (b == percent) refl h (no_percent n)
  where
    by_test : (v : Bool) → (b == percent) ≡ v → (v || has_escape n) ≡ false → (has_escape n ≡ false → lacks percent n ≡ true)
        → lacks percent (b ∷ n) ≡ true
    by_test true e h rest = absurd (cc)
    by_test false e h rest = and_from _ _ (ap not e) (rest h)

decoded_plain : (n : List ℕ) → lacks percent n ≡ true → decoded n ≡ n
decoded_plain [] h = decoded-nil [] refl
decoded_plain (b ∷ n) h =
    let both = and_parts (not (b == percent)) _ h in
    decoded-byte b n (not-true (b == percent) both.0) ∙ ap (λ t. b ∷ t) (decoded_plain n both.1)

-- a byte of a name, in lower case, is no forbidden one
may_stand : (b : ℕ) → is_plain class.Name b ≡ true → (nat_le 128 b || is_forbidden (to_ascii_lowercase b)) ≡ false
unfolding is_plain is_unreserved is_sub_delim
may_stand b h = grind (arith, nat_tests)

abbrev may_be : ℕ → Bool
may_be b = b == percent || not (nat_le 128 b || is_forbidden (to_ascii_lowercase b))

hex_may_be : (b : ℕ) → is_hex b ≡ true → may_be b ≡ true
hex_may_be b h = grind (arith, nat_tests)

plain_may_be : (b : ℕ) → is_plain class.Name b ≡ true → may_be b ≡ true
plain_may_be b h = ap (λ v. b == percent || not v) (may_stand b h) ∙ or_true (b == percent)
  where
    or_true : (v : Bool) → (v || true) ≡ true
    or_true true = refl
    or_true false = refl

-- each byte is ASCII, and none is forbidden in lower case
allowed : (n : List ℕ) → list_all may_be n ≡ true → lacks percent n ≡ true
    → (list_any (nat_le 128) n ≡ false) × (list_any is_forbidden (str_to_ascii_lowercase n) ≡ false)
allowed [] h k = (refl, refl)
allowed (b ∷ n) h k =
    let both = and_parts (may_be b) _ h in
    let sign = and_parts (not (b == percent)) _ k in
    let rest = allowed n both.1 sign.1 in
    by_tests (b == percent) (nat_le 128 b) (is_forbidden (to_ascii_lowercase b)) (not-true _ sign.0) both.0 rest
  where
    by_tests : (u v w : Bool) → u ≡ false → (u || not (v || w)) ≡ true
        → (list_any (nat_le 128) n ≡ false) × (list_any is_forbidden (str_to_ascii_lowercase n) ≡ false)
        → ((v || list_any (nat_le 128) n) ≡ false) × ((w || list_any is_forbidden (str_to_ascii_lowercase n)) ≡ false)
    by_tests true v w e h rest = absurd (cc)
    by_tests false true w e h rest = absurd (cc)
    by_tests false false true e h rest = absurd (cc)
    by_tests false false false e h rest = rest

name_allowed : (n : List ℕ) → IsName n → lacks percent n ≡ true
    → (list_any (nat_le 128) n ≡ false) × (list_any is_forbidden (str_to_ascii_lowercase n) ≡ false)
name_allowed n is plain = allowed n (bytes-in_class class.Name may_be plain_may_be refl hex_may_be n is) plain

-- the Standard takes no label for a number that doesn't begin with a digit
not_number : (l : List ℕ) → begins_with_digit l ≡ false → is_number l ≡ false
not_number [] h = refl
not_number (b ∷ []) h = rw h refl
not_number (b ∷ c ∷ t) h =
    let other : (b == 48) ≡ false = no_zero (b == 48) refl h in
    ap (λ v. (v && are_digits (c ∷ t)) || is_some (ipv4_number (b ∷ c ∷ t))) h
    ∙ ap (λ v. is_some (cond (not v) (number_in 10 (b ∷ c ∷ t)) (cond (is_among (codes "xX") c) (number_in 16 t) (number_in 8 (c ∷ t))))) other
    ∙ ap (λ v. is_some (cond (v && list_all (λ b. is_digit b 10) (c ∷ t)) (Some (digits_value 10 (b ∷ c ∷ t))) None)) h
  where
    no_zero : (v : Bool) → (b == 48) ≡ v → is_digit b 10 ≡ false → v ≡ false
    no_zero true e h = grind (arith, nat_tests)
    no_zero false e h = refl

-- ---- the host of a name

name_of_domain : (n : List ℕ) → 0 < length n → list_any is_forbidden n ≡ false → ends_in_number n ≡ false → of_domain n ≡ Some (Domain n)
name_of_domain [] some h k = absurd (omega (arith, some))
name_of_domain (b ∷ n) some h k =
    ap (λ v. cond v None (cond (ends_in_number (b ∷ n)) (option_map Ipv4 (web_ipv4 (b ∷ n))) (Some (Domain (b ∷ n))))) h
    ∙ ap (λ v. cond v (option_map Ipv4 (web_ipv4 (b ∷ n))) (Some (Domain (b ∷ n)))) k

-- a text without brackets is a domain
domain_of : (idna : List ℕ → Option (List ℕ)) (t : List ℕ) → lacks left_bracket t ≡ true → 0 < length t → decoded t ≡ t
    → list_any (nat_le 128) t ≡ false → has_encoded_label t ≡ false → web_host idna t ≡ of_domain (str_to_ascii_lowercase t)
domain_of idna [] lack some plain ascii encoded = absurd (omega (arith, some))
domain_of idna (b ∷ t) lack some plain ascii encoded =
    let both = and_parts (not (b == left_bracket)) _ lack in
    ap (λ v. cond v (option_map Ipv6 (option_and_then ipv6_reading (in_brackets (b ∷ t)))) (option_and_then of_domain (to_ascii idna (decoded (b ∷ t)))))
    (not-true (b == left_bracket) both.0)
    ∙ ap (λ u. option_and_then of_domain (to_ascii idna u)) plain
    ∙ ap (λ v. option_and_then of_domain (cond (v || has_encoded_label (b ∷ t)) (idna (b ∷ t)) (Some (str_to_ascii_lowercase (b ∷ t))))) ascii
    ∙ ap (λ v. option_and_then of_domain (cond v (idna (b ∷ t)) (Some (str_to_ascii_lowercase (b ∷ t))))) encoded

lowered_some : (t : List ℕ) → 0 < length t → 0 < length (str_to_ascii_lowercase t)
lowered_some [] h = absurd (omega (arith, h))
lowered_some (b ∷ t) h = omega arith

name_host : (idna : List ℕ → Option (List ℕ)) (n : List ℕ) → IsName n → 0 < length n → has_escape n ≡ false
    → begins_with_digit (last_label (labels (canonical_lowered n))) ≡ false → has_encoded_label n ≡ false
    → web_host idna n ≡ Some (Domain (canonical_lowered n))
name_host idna n is some unescaped number encoded =
    let plain = no_percent n unescaped in
    let low : canonical_lowered n ≡ str_to_ascii_lowercase n = canonical_lowered-plain n plain in
    let bytes = name_allowed n is plain in
    let last : ends_in_number (str_to_ascii_lowercase n) ≡ false =
    subst (λ t. ends_in_number t ≡ false) low (not_number (last_label (labels (canonical_lowered n))) number) in
    domain_of idna n (username_lacks left_bracket refl n is) some (decoded_plain n plain) bytes.0 encoded
    ∙ name_of_domain (str_to_ascii_lowercase n) (lowered_some n some) bytes.1 last ∙ ap (λ t. Some (Domain t)) (sym low)

-- ---- the host of an IPv4 address

digit_low : (b : ℕ) → is_ipv4_byte b ≡ true → (to_ascii_lowercase b ≡ b) × ((nat_le 128 b || is_forbidden b) ≡ false)
digit_low b h = (grind (arith, nat_tests), grind (arith, nat_tests))

-- digits and dots are in lower case, ASCII and not forbidden
address_bytes : (t : List ℕ) → list_all is_ipv4_byte t ≡ true
    → (str_to_ascii_lowercase t ≡ t) × (list_any (nat_le 128) t ≡ false) × (list_any is_forbidden t ≡ false)
address_bytes [] h = (refl, refl, refl)
address_bytes (b ∷ t) h =
    let both = and_parts (is_ipv4_byte b) _ h in
    let here = digit_low b both.0 in
    let rest = address_bytes t both.1 in
    let tests = by_tests (nat_le 128 b) (is_forbidden b) here.1 rest.1 rest.2 in
    (ap (λ x. x ∷ str_to_ascii_lowercase t) here.0 ∙ ap (λ u. b ∷ u) rest.0, tests.0, tests.1)
  where
    by_tests : (v w : Bool) → (v || w) ≡ false → list_any (nat_le 128) t ≡ false → list_any is_forbidden t ≡ false
        → ((v || list_any (nat_le 128) t) ≡ false) × ((w || list_any is_forbidden t) ≡ false)
    by_tests true w h e f = absurd (cc)
    by_tests false true h e f = absurd (cc)
    by_tests false false h e f = (e, f)

digits_of : (t : List ℕ) → AllDigits 10 t → are_digits t ≡ true
digits_of [] h = refl
digits_of (b ∷ t) h = and_from _ _ (digit_is b h.0) (digits_of t h.1)
  where
    digit_is : (b : ℕ) → digit_value b < 10 → is_digit b 10 ≡ true
    digit_is b h = grind (arith, nat_tests)

no_dots : (t : List ℕ) → AllDigits 10 t → LacksDot t
no_dots [] h = refl
no_dots (b ∷ t) h = and_from _ _ (digit_no_dot b h.0) (no_dots t h.1)
  where
    digit_no_dot : (b : ℕ) → digit_value b < 10 → not (is_dot b) ≡ true
    digit_no_dot b h = grind (arith, nat_tests)

-- an octet is a decimal number
octet_number : (t : List ℕ) (n : ℕ) → IsDecOctet t n → ipv4_number t ≡ Some n
octet_number [] n h = absurd (let some = h.number.0.0 in omega (arith, some))
octet_number (b ∷ []) n h =
    ap (λ v. cond v (Some (digits_value 10 (b ∷ []))) None) (digits_of (b ∷ []) h.number.0.1) ∙ ap Some h.number.1
octet_number (b ∷ c ∷ t) n h =
    ap (λ v. cond (not v) (number_in 10 (b ∷ c ∷ t)) (cond (is_among (codes "xX") c) (number_in 16 t) (number_in 8 (c ∷ t)))) (no_zero (b == 48) refl)
    ∙ ap (λ v. cond v (Some (digits_value 10 (b ∷ c ∷ t))) None) (digits_of (b ∷ c ∷ t) h.number.0.1) ∙ ap Some h.number.1
  where
    zero_first : (b == 48) ≡ true → ⊥
    zero_first e =
        let same : b ≡ 48 = grind (arith, nat_tests) in
        let short : length (b ∷ c ∷ t) ≡ 1 = h.alone same in
        omega (arith, short)

    no_zero : (v : Bool) → (b == 48) ≡ v → (b == 48) ≡ false
    no_zero true e = absurd (zero_first e)
    no_zero false e = e

octet_label : (t : List ℕ) (n : ℕ) → IsDecOctet t n → is_encoded_label t ≡ false
octet_label [] n h = refl
octet_label (b ∷ t) n h = first_byte b (let digit = h.number.0.1 in digit.0)
  where
    first_byte : (b : ℕ) → digit_value b < 10 → is_encoded_label (b ∷ t) ≡ false
    first_byte b h = let other : (to_ascii_lowercase b == 120) ≡ false = grind (arith, nat_tests) in ap (λ v. v && bytes_eq (str_to_ascii_lowercase (take 3 t)) (codes "n--")) other

-- a dot between two texts separates their labels
labels_at_dot : (s t : List ℕ) → slice_split is_dot (s ++ dot ∷ t) ≡ slice_split is_dot s ++ slice_split is_dot t
labels_at_dot [] t = refl
labels_at_dot (b ∷ s) t = by_dot (is_dot b) refl (labels_at_dot s t)
  where
    onto : (ls ms : List (List ℕ)) → 0 < length ls → onto_first b (ls ++ ms) ≡ onto_first b ls ++ ms
    onto [] ms h = absurd (omega (arith, h))
    onto (l ∷ ls) ms h = refl

    some : (t : List ℕ) (is : IsCut t) → 0 < length (slice_split is_dot t)
    some t is = subst (λ ls. 0 < length ls) (sym is.parts) (omega arith)

    by_dot : (v : Bool) → is_dot b ≡ v → slice_split is_dot (s ++ dot ∷ t) ≡ slice_split is_dot s ++ slice_split is_dot t
        → cond v ([] ∷ slice_split is_dot (s ++ dot ∷ t)) (onto_first b (slice_split is_dot (s ++ dot ∷ t)))
        ≡ cond v ([] ∷ slice_split is_dot s) (onto_first b (slice_split is_dot s)) ++ slice_split is_dot t
    by_dot true e rest = ap (λ ls. [] ∷ ls) rest
    by_dot false e rest = ap (onto_first b) rest ∙ onto (slice_split is_dot s) (slice_split is_dot t) (some s (cut s))

one_label : (s : List ℕ) → LacksDot s → slice_split is_dot s ≡ s ∷ []
one_label s h =
    ap (slice_split is_dot) (sym (append-nil s)) ∙ pieces-front s [] [] [] h refl ∙ ap (λ u. u ∷ []) (append-nil s)

-- the labels of four octets
four_labels : (t a : List ℕ) (s : SpellsIpv4 t a) → slice_split is_dot t ≡ s.first ∷ s.second ∷ s.third ∷ s.fourth ∷ []
four_labels t a s =
    let d : List ℕ = dot ∷ [] in
    let two : List ℕ = (s.first ++ d) ++ s.second in
    let three : List ℕ = (two ++ d) ++ s.third in
    let i = one_label s.first (no_dots s.first s.is_first.number.0.1) in
    let j = one_label s.second (no_dots s.second s.is_second.number.0.1) in
    let k = one_label s.third (no_dots s.third s.is_third.number.0.1) in
    let l = one_label s.fourth (no_dots s.fourth s.is_fourth.number.0.1) in
    let last = joined three s.fourth in
    let third = joined two s.third in
    let second = joined s.first s.second in
    ap (slice_split is_dot) s.whole ∙ last ∙ ap (λ x. x ++ slice_split is_dot s.fourth) third
    ∙ ap (λ x. (x ++ slice_split is_dot s.third) ++ slice_split is_dot s.fourth) second
    ∙ ap (λ x. ((x ++ slice_split is_dot s.second) ++ slice_split is_dot s.third) ++ slice_split is_dot s.fourth) i
    ∙ ap (λ x. ((s.first ∷ x) ++ slice_split is_dot s.third) ++ slice_split is_dot s.fourth) j
    ∙ ap (λ x. (s.first ∷ s.second ∷ x) ++ slice_split is_dot s.fourth) k ∙ ap (λ x. s.first ∷ s.second ∷ s.third ∷ x) l
  where
    joined : (x y : List ℕ) → slice_split is_dot ((x ++ dot ∷ []) ++ y) ≡ slice_split is_dot x ++ slice_split is_dot y
    joined x y = ap (slice_split is_dot) (append_assoc x (dot ∷ []) y) ∙ labels_at_dot x y

value_of_four : (a b c d : ℕ) → a ≤ 255 → b ≤ 255 → c ≤ 255 → d ≤ 255
    → ipv4_value 4 (a ∷ b ∷ c ∷ d ∷ []) ≡ Some (bytes_value 0 (a ∷ b ∷ c ∷ d ∷ []))
value_of_four a b c d h i j k =
    let w : nat_lt a 256 ≡ true = grind (arith, nat_tests) in
    let x : nat_lt b 256 ≡ true = grind (arith, nat_tests) in
    let y : nat_lt c 256 ≡ true = grind (arith, nat_tests) in
    let z : nat_lt d 256 ≡ true = grind (arith, nat_tests) in
    ap (λ v. cond v (option_map (λ n. a * 256 ^ 3 + n) (ipv4_value 3 (b ∷ c ∷ d ∷ []))) None) w
    ∙ ap (λ v. option_map (λ n. a * 256 ^ 3 + n) (cond v (option_map (λ n. b * 256 ^ 2 + n) (ipv4_value 2 (c ∷ d ∷ []))) None)) x
    ∙ ap (λ v. option_map (λ n. a * 256 ^ 3 + n) (option_map (λ n. b * 256 ^ 2 + n) (cond v (option_map (λ n. c * 256 ^ 1 + n) (ipv4_value 1 (d ∷ []))) None))) y
    ∙ ap (λ v. option_map (λ n. a * 256 ^ 3 + n) (option_map (λ n. b * 256 ^ 2 + n) (option_map (λ n. c * 256 ^ 1 + n) (cond v (Some d) None)))) z
    ∙ ap Some (same a b c d)
  where
    same : (a b c d : ℕ) → a * 256 ^ 3 + (b * 256 ^ 2 + (c * 256 ^ 1 + d)) ≡ bytes_value 0 (a ∷ b ∷ c ∷ d ∷ [])
    same a b c d = omega arith

numbers_of_four : (e f g h : List ℕ) (a b c d : ℕ) → ipv4_number e ≡ Some a → ipv4_number f ≡ Some b → ipv4_number g ≡ Some c → ipv4_number h ≡ Some d
    → ipv4_numbers (e ∷ f ∷ g ∷ h ∷ []) ≡ Some (a ∷ b ∷ c ∷ d ∷ [])
numbers_of_four e f g h a b c d i j k l = rw (i, j, k, l) refl

labels_of_four : (t a : List ℕ) (s : SpellsIpv4 t a) → labels t ≡ s.first ∷ s.second ∷ s.third ∷ s.fourth ∷ []
labels_of_four t a s = ap (slice_split is_dot) (address_end t a s) ∙ four_labels t a s

number_of_four : (t a : List ℕ) (s : SpellsIpv4 t a) → web_ipv4 t ≡ Some (bytes_value 0 a)
number_of_four t a s =
    let ls = labels_of_four t a s in
    let i = octet_number s.first s.a s.is_first in
    let j = octet_number s.second s.b s.is_second in
    let k = octet_number s.third s.c s.is_third in
    let l = octet_number s.fourth s.d s.is_fourth in
    ap (λ ls. cond (nat_le (length ls) 4) (option_and_then (ipv4_value 4) (ipv4_numbers ls)) None) ls
    ∙ ap (option_and_then (ipv4_value 4)) (numbers_of_four s.first s.second s.third s.fourth s.a s.b s.c s.d i j k l)
    ∙ value_of_four s.a s.b s.c s.d s.is_first.fits s.is_second.fits s.is_third.fits s.is_fourth.fits ∙ ap (λ a. Some (bytes_value 0 a)) (sym s.value)

ends_of_four : (t a : List ℕ) (s : SpellsIpv4 t a) → ends_in_number t ≡ true
ends_of_four t a s = ap (λ ls. is_number (last_label ls)) (labels_of_four t a s) ∙ numeral s.fourth s.is_fourth.number.0.0 s.is_fourth.number.0.1
  where
    numeral : (l : List ℕ) → 0 < length l → AllDigits 10 l → is_number l ≡ true
    numeral [] some all = absurd (omega (arith, some))
    numeral (b ∷ l) some all = ap (λ v. v || is_some (ipv4_number (b ∷ l))) (digits_of (b ∷ l) all)

some_four : (t a : List ℕ) → SpellsIpv4 t a → 0 < length t
some_four [] a s =
    let four : length {A = List ℕ} ([] ∷ []) ≡ 4 = ap length (four_labels [] a s) in
    absurd (omega (arith, four))
some_four (b ∷ t) a s = omega arith

unencoded_four : (t a : List ℕ) (s : SpellsIpv4 t a) → has_encoded_label t ≡ false
unencoded_four t a s =
    ap (list_any is_encoded_label) (four_labels t a s) ∙ rw (
      octet_label s.first s.a s.is_first,
      octet_label s.second s.b s.is_second,
      octet_label s.third s.c s.is_third,
      octet_label s.fourth s.d s.is_fourth,
    ) refl

address_of_domain : (t : List ℕ) (n : ℕ) → 0 < length t → list_any is_forbidden t ≡ false → ends_in_number t ≡ true → web_ipv4 t ≡ Some n
    → of_domain t ≡ Some (Ipv4 n)
address_of_domain [] n some h k e = absurd (omega (arith, some))
address_of_domain (b ∷ t) n some h k e =
    ap (λ v. cond v None (cond (ends_in_number (b ∷ t)) (option_map Ipv4 (web_ipv4 (b ∷ t))) (Some (Domain (b ∷ t))))) h
    ∙ ap (λ v. cond v (option_map Ipv4 (web_ipv4 (b ∷ t))) (Some (Domain (b ∷ t)))) k ∙ ap (option_map Ipv4) e

address_host : (idna : List ℕ → Option (List ℕ)) (t a : List ℕ) → SpellsIpv4 t a → web_host idna t ≡ Some (Ipv4 (bytes_value 0 a))
address_host idna t a s =
    let bytes = address_bytes t (SpellsIpv4-bytes t a s) in
    let some = some_four t a s in
    domain_of idna t (lacks-SpellsIpv4 t a s left_bracket refl) some (decoded_plain t (lacks-SpellsIpv4 t a s percent refl)) bytes.1 (unencoded_four t a s)
    ∙ ap of_domain bytes.0 ∙ address_of_domain t (bytes_value 0 a) some bytes.2 (ends_of_four t a s) (number_of_four t a s)

-- ---- any host

bracketed_host : (idna : List ℕ → Option (List ℕ)) (t inner a : List ℕ) → t ≡ bracketed inner → SpellsIpv6 inner a → web_host idna t ≡ Some (Ipv6 a)
bracketed_host idna t inner a e s =
    ap (web_host idna) e ∙ ap (λ o. option_map Ipv6 (option_and_then ipv6_reading o)) ((brackets_exactly (bracketed inner) inner).1 refl)
    ∙ ap (option_map Ipv6) (ipv6_reading-spelled inner a s)

-- what a host has to be for readers to agree on it
pub record IsPlainHost (h : Host) : Type 0 where
  pub some : host.is_empty h ≡ false
  pub not_future : is_future h ≡ false
  pub unescaped : is_name has_escape h ≡ false
  pub not_numeric : may_be_numeric h ≡ false
  pub unencoded : is_name has_encoded_label h ≡ false

some_name : (n : List ℕ) → (length n == 0) ≡ false → 0 < length n
some_name [] h = absurd (cc)
some_name (b ∷ n) h = omega arith

pub host_agrees : (idna : List ℕ → Option (List ℕ)) (t : List ℕ) (h : Host) → host.Spells t h → IsPlainHost h
    → (w : WebHost) × (web_host idna t ≡ Some w) × (as_web h ≡ Some w)
host_agrees idna t (IPv4Address a) s is = (Ipv4 (bytes_value 0 a), address_host idna t a s, refl)
host_agrees idna t (IPv6Address a) s is = (Ipv6 a, bracketed_host idna t s.0 a s.1 s.2, refl)
host_agrees idna t (IPvFuture f) s is = absurd (let never = is.not_future in cc)
host_agrees idna t (RegisteredName n) s is =
    let name : IsName n = subst IsName (sym s.0) s.1 in (
      Domain (canonical_lowered n),
      ap (web_host idna) (sym s.0) ∙ name_host idna n name (some_name n is.some) is.unescaped is.not_numeric is.unencoded,
      refl,
    )

-- the text of a host that isn't empty isn't empty
pub host_some : (t : List ℕ) (h : Host) → host.Spells t h → host.is_empty h ≡ false → 0 < length t
host_some t (IPv4Address a) s e = some_four t a s
host_some t (IPv6Address a) s e = subst (λ t. 0 < length t) (sym s.1) (omega arith)
host_some t (IPvFuture f) s e = subst (λ t. 0 < length t) (sym s.0) (omega arith)
host_some t (RegisteredName n) s e = subst (λ t. 0 < length t) s.0 (some_name n e)
