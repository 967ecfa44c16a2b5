-- Numbers and addresses that are put together from their end.
use Rattle.std.proofs.Common.{◌≡◌, ℕ, ◌+◌, ◌-◌, ◌/◌, ◌%◌, ◌^◌, ◌<◌, ◌≤◌, Bool, true, false, cond, List, [], ◌∷◌, ◌++◌, length, take, drop, get_or, codes, decimal, flat_map, bytes_eq, nat_lt, refl, sym, ap, ◌∙◌, subst, arith, append_assoc}
use Rattle.std.proofs.lemmas.Bool.{cond-true, cond-false}
use Rattle.std.proofs.lemmas.Bool.Decides.{nat_tests}
use Rattle.std.proofs.lemmas.Fmt.{decimal_digit, decimal_step}
use Rattle.std.proofs.lemmas.List.{drop_more, take_rest}
use Rattle.std.proofs.lemmas.Slice.Eq.{bytes_eq-Decides}
use Rattle.std.specs.Net.Addr.{IsIpv4Mapped, octets_of}
use Rattle.std.specs.Net.Text.{hex, groups_text, longest_zero_run, hex_groups_text}
use Rattle.uriparse_text.specs.Address.{ipv4_text, ipv6_text}
use Rattle.uriparse_text.specs.Ends.{EndsWith}

-- ---- decimal digits

-- the digits that were put, and the number whose digits are left
pub record DigitsPut (number left : ℕ) (old : List ℕ) (len : ℕ) (new : List ℕ) (total : ℕ) : Type 0 where
  pub done : List ℕ
  pub cut : decimal number ≡ decimal left ++ done
  pub small : left < 2 ^ 16
  pub room : length new ≡ length old
  pub puts : (t : List ℕ) → EndsWith old len t → EndsWith new total (done ++ t)

pub digit_more : (number left : ℕ) (old : List ℕ) (len : ℕ) (mid : List ℕ) (so_far : ℕ) (new : List ℕ) (total : ℕ)
    → DigitsPut number left old len mid so_far → 10 ≤ left → length new ≡ length mid
    → ((t : List ℕ) → EndsWith mid so_far t → EndsWith new total ((48 + left % 10) ∷ t))
    → DigitsPut number (left / 10) old len new total
digit_more number left old len mid so_far new total is large room puts =
    let small = is.small in
    record {
      done = (48 + left % 10) ∷ is.done;
      cut = is.cut ∙ ap (λ u. u ++ is.done) (decimal_step left large (omega arith))
          ∙ append_assoc (decimal (left / 10)) ((48 + left % 10) ∷ []) is.done;
      small = omega arith;
      room = room ∙ is.room;
      puts = λ t h. puts (is.done ++ t) (is.puts t h);
    }

pub digits_whole : (number left : ℕ) (old : List ℕ) (len : ℕ) (mid : List ℕ) (so_far : ℕ) (new : List ℕ) (total : ℕ)
    → DigitsPut number left old len mid so_far → left < 10
    → ((t : List ℕ) → EndsWith mid so_far t → EndsWith new total ((48 + left) ∷ t))
    → (t : List ℕ) → EndsWith old len t → EndsWith new total (decimal number ++ t)
digits_whole number left old len mid so_far new total is low puts t h =
    subst (λ u. EndsWith new total (u ++ t)) (sym (is.cut ∙ ap (λ u. u ++ is.done) (decimal_digit left low))) (puts (is.done ++ t) (is.puts t h))

-- ---- IPv6

pub mapped_text : (a : List ℕ) → IsIpv4Mapped a → ipv6_text a ≡ codes "::ffff:" ++ ipv4_text (octets_of (drop 6 a))
unfolding Rattle.std.specs.Net.Text.ipv6_text
mapped_text a is = cond-true _ _ _ ((bytes_eq-Decides (take 6 a) (0 ∷ 0 ∷ 0 ∷ 0 ∷ 0 ∷ 0xffff ∷ [])).1 is)

pub other_text : (a : List ℕ) → (IsIpv4Mapped a → ⊥) → ipv6_text a ≡ hex_groups_text a
unfolding Rattle.std.specs.Net.Text.ipv6_text
other_text a other = cond-false _ _ _ (none (bytes_eq (take 6 a) (0 ∷ 0 ∷ 0 ∷ 0 ∷ 0 ∷ 0xffff ∷ [])) refl)
  where
    none : (v : Bool) → bytes_eq (take 6 a) (0 ∷ 0 ∷ 0 ∷ 0 ∷ 0 ∷ 0xffff ∷ []) ≡ v → v ≡ false
    none true e = absurd (other ((bytes_eq-Decides (take 6 a) (0 ∷ 0 ∷ 0 ∷ 0 ∷ 0 ∷ 0xffff ∷ [])).0 e))
    none false e = refl

pub long_text : (a : List ℕ) (start len : ℕ) → (start, len) ≡ longest_zero_run a → 1 < len
    → hex_groups_text a ≡ groups_text (take start a) ++ (codes "::" ++ groups_text (drop (start + len) a))
unfolding hex_groups_text
long_text a start len e long =
    ap (λ r. cond (nat_lt 1 r.1) (groups_text (take r.0 a) ++ codes "::" ++ groups_text (drop (r.0 + r.1) a)) (groups_text a)) (sym e)
    ∙ ap (λ v. cond v (groups_text (take start a) ++ codes "::" ++ groups_text (drop (start + len) a)) (groups_text a)) (above len long)
    ∙ append_assoc (groups_text (take start a)) (codes "::") (groups_text (drop (start + len) a))
  where
    above : (n : ℕ) → 1 < n → nat_lt 1 n ≡ true
    above n h = grind (arith, nat_tests)

pub short_text : (a : List ℕ) (start len : ℕ) → (start, len) ≡ longest_zero_run a → len ≤ 1 → hex_groups_text a ≡ groups_text a
unfolding hex_groups_text
short_text a start len e short =
    ap (λ r. cond (nat_lt 1 r.1) (groups_text (take r.0 a) ++ codes "::" ++ groups_text (drop (r.0 + r.1) a)) (groups_text a)) (sym e)
    ∙ ap (λ v. cond v (groups_text (take start a) ++ codes "::" ++ groups_text (drop (start + len) a)) (groups_text a)) (below len short)
  where
    below : (n : ℕ) → n ≤ 1 → nat_lt 1 n ≡ false
    below n h = grind (arith, nat_tests)

-- a segment more, after a colon
pub colon_more : (a : List ℕ) (i j : ℕ) (t : List ℕ) → i + 1 ≡ j → i < length a
    → 58 ∷ (hex (get_or a i 0) ++ (flat_map (λ s. codes ":" ++ hex s) (drop j a) ++ t)) ≡ flat_map (λ s. codes ":" ++ hex s) (drop i a) ++ t
colon_more a i j t e inside =
    ap (λ k. 58 ∷ (hex (get_or a i 0) ++ (flat_map (λ s. codes ":" ++ hex s) (drop k a) ++ t))) (sym e)
    ∙ ap (λ u. 58 ∷ u) (sym (append_assoc (hex (get_or a i 0)) (flat_map (λ s. codes ":" ++ hex s) (drop (i + 1) a)) t))
    ∙ ap (λ l. flat_map (λ s. codes ":" ++ hex s) l ++ t) (sym (drop_more a i 0 inside))

pub groups_head : (a t : List ℕ) → 1 ≤ length a
    → hex (get_or a 0 0) ++ (flat_map (λ s. codes ":" ++ hex s) (take (length a - 1) (drop 1 a)) ++ t) ≡ groups_text a ++ t
groups_head [] t h = absurd (omega arith)
groups_head (s ∷ rest) t h =
    ap (λ l. hex s ++ (flat_map (λ r. codes ":" ++ hex r) l ++ t)) (take_rest (s ∷ rest) 1)
    ∙ sym (append_assoc (hex s) (flat_map (λ r. codes ":" ++ hex r) rest) t)
