-- Which two digits make an escape that isn't canonical, by the kinds that they share.
use Rattle.std.proofs.Common.{◌≡◌, ℕ, ◌/◌, ◌<◌, Bool, true, false, eqb, ◌&&◌, ◌||◌, get_or, bit_and, refl}
use Rattle.std.specs.Prelude.{not}
use Rattle.std.proofs.lemmas.Bool.{agree_below, agree_below_at, false≢true}
use Rattle.uriparse_text.specs.declared.internal.canonical_escape.TheConstants.{FIRST_LOW, FIRST_HIGH, SECOND_LOW, SECOND_HIGH}
use Rattle.uriparse_text.specs.Bytes.{is_hex, is_unreserved}
use Rattle.uriparse_text.specs.Escapes.{is_canonical_escape}

-- ---- the kinds of two digits

abbrev pub first_kinds : ℕ → ℕ
first_kinds b = bit_and (get_or FIRST_LOW (bit_and b 15) 0) (get_or FIRST_HIGH (b / 16) 0)

abbrev pub second_kinds : ℕ → ℕ
second_kinds b = bit_and (get_or SECOND_LOW (bit_and b 15) 0) (get_or SECOND_HIGH (b / 16) 0)

abbrev pub shares_none : ℕ → ℕ → Bool
shares_none high low = eqb (bit_and (first_kinds high) (second_kinds low)) 0

-- they tell of each second digit
abbrev tell : ℕ → Bool
tell high = not (is_hex high) || agree_below (λ low. is_hex low && shares_none high low) (λ low. is_hex low && is_canonical_escape high low) 256

or_left : (v w : Bool) → v ≡ true → (not v || w) ≡ true → w ≡ true
or_left true w h k = k
or_left false w h k = absurd (false≢true h)

both_of : (u v w : Bool) → u ≡ true → (u && v) ≡ (u && w) → v ≡ w
both_of true v w h e = e
both_of false v w h e = absurd (false≢true h)

pub pair_kind : (high low : ℕ) → high < 256 → low < 256 → is_hex high ≡ true → is_hex low ≡ true → shares_none high low ≡ is_canonical_escape high low
unfolding is_unreserved
pair_kind high low small less first second =
    let all = or_left (is_hex high) _ first (agree_below_at tell (λ _. true) 256 high refl small) in
    both_of (is_hex low) (shares_none high low) (is_canonical_escape high low) second
    (agree_below_at (λ l. is_hex l && shares_none high l) (λ l. is_hex l && is_canonical_escape high l) 256 low all less)
