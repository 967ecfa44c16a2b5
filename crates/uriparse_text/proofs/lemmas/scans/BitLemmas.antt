-- The bits of a mask.
use Rattle.std.proofs.Common.{◌≡◌, ℕ, zero, suc, ◌+◌, ◌-◌, ◌*◌, ◌/◌, ◌%◌, ◌^◌, ◌<◌, ◌≤◌, refl, sym, ap, ◌∙◌, arith, count_ones}
use Rattle.std.specs.Int.{bit_at}
use Rattle.std.proofs.lemmas.Nat.{shr-shr, shr_split, mod-pow-add, ones_cat}
use Rattle.std.proofs.lemmas.Nat.Bits.{bit_at_lowest, bit_at-suc, bit_at_above, bit_at_cat_low, bit_at_cat_high, bit_at-lt}
use Rattle.std.proofs.Math.Nat.{mod-lt, mod-eq_of_lt, two-pow-succ, pow-le-pow_right}
use Rattle.std.proofs.Common.{pow_pos}

-- one less than a mask: its lowest bit is unset, and those above it are kept
pub less_one-lowest : (m k : ℕ) → bit_at m k ≡ 1 → ((i : ℕ) → i < k → bit_at m i ≡ 0) → bit_at (m - 1) k ≡ 0
less_one-lowest m zero set below = bit_at_lowest (m - 1) ∙ omega (arith, set, bit_at_lowest m)
less_one-lowest m (suc k) set below =
    let half : (m - 1) / 2 ≡ m / 2 - 1 = omega (arith, below 0 (omega arith), bit_at_lowest m) in
    bit_at-suc (m - 1) k ∙ ap (λ x. bit_at x k) half
    ∙ less_one-lowest (m / 2) k (sym (bit_at-suc m k) ∙ set) (λ i h. sym (bit_at-suc m i) ∙ below (suc i) (omega arith))

pub less_one-above : (m k j : ℕ) → bit_at m k ≡ 1 → ((i : ℕ) → i < k → bit_at m i ≡ 0) → k < j → bit_at (m - 1) j ≡ bit_at m j
less_one-above m k zero set below past = absurd (omega arith)
less_one-above m zero (suc j) set below past =
    let half : (m - 1) / 2 ≡ m / 2 = omega (arith, set, bit_at_lowest m) in
    bit_at-suc (m - 1) j ∙ ap (λ x. bit_at x j) half ∙ sym (bit_at-suc m j)
less_one-above m (suc k) (suc j) set below past =
    let half : (m - 1) / 2 ≡ m / 2 - 1 = omega (arith, below 0 (omega arith), bit_at_lowest m) in
    bit_at-suc (m - 1) j ∙ ap (λ x. bit_at x j) half
    ∙ less_one-above (m / 2) k j (sym (bit_at-suc m k) ∙ set) (λ i h. sym (bit_at-suc m i) ∙ below (suc i) (omega arith)) (omega arith)
    ∙ sym (bit_at-suc m j)

pub bit_at_shr : (m s k : ℕ) → bit_at (m / 2 ^ s) k ≡ bit_at m (s + k)
bit_at_shr m s k = ap (λ x. x % 2) (shr-shr m s k)

-- the bits of m below a place
pub below-kept : (m p k : ℕ) → k < p → bit_at (m % 2 ^ p) k ≡ bit_at m k
below-kept m p k h = sym (bit_at_cat_low (m / 2 ^ p) p (m % 2 ^ p) k h) ∙ ap (λ x. bit_at x k) (shr_split m p)

pub below-gone : (m p k : ℕ) → p ≤ k → bit_at (m % 2 ^ p) k ≡ 0
below-gone m p k h = bit_at_above (m % 2 ^ p) p k (mod-lt m (pow_pos p)) h

-- the highest bit of m
pub highest-set : (m k : ℕ) → 2 ^ k ≤ m → m < 2 ^ suc k → bit_at m k ≡ 1
highest-set m k least most =
    let whole : 1 * 2 ^ k + (m - 2 ^ k) ≡ m = omega (arith, least) in
    let fits : m - 2 ^ k < 2 ^ k = omega (arith, least, most, two-pow-succ k) in
    let none : k - k ≡ 0 = omega arith in
    ap (λ x. bit_at x k) (sym whole) ∙ bit_at_cat_high 1 k (m - 2 ^ k) k fits (omega arith) ∙ ap (bit_at 1) none

-- the bits of m from s on, over its lowest w bits
pub joined-low : (m s w k : ℕ) → k < w → bit_at (m / 2 ^ s * 2 ^ w + m % 2 ^ w) k ≡ bit_at m k
joined-low m s w k h = bit_at_cat_low (m / 2 ^ s) w (m % 2 ^ w) k h ∙ below-kept m w k h

pub joined-high : (m s w k : ℕ) → w ≤ k → bit_at (m / 2 ^ s * 2 ^ w + m % 2 ^ w) k ≡ bit_at m (s + (k - w))
joined-high m s w k h =
    bit_at_cat_high (m / 2 ^ s) w (m % 2 ^ w) k (mod-lt m (pow_pos w)) h ∙ bit_at_shr m s (k - w)

-- ---- how many bits are set

one_bit : (b : ℕ) → b < 2 → count_ones b ≡ b
unfolding lib.Count.ones
one_bit zero h = refl
one_bit (suc zero) h = refl
one_bit (suc (suc b)) h = absurd (omega arith)

pub ones_none : (m : ℕ) → count_ones (m % 2 ^ 0) ≡ 0
ones_none m = let below = mod-lt m (pow_pos 0) in let none : m % 2 ^ 0 ≡ 0 = omega (arith, below) in ap count_ones none ∙ one_bit 0 (omega arith)

pub ones_next : (m j : ℕ) → count_ones (m % 2 ^ (j + 1)) ≡ count_ones (m % 2 ^ j) + bit_at m j
ones_next m j =
    let offset : j + 1 ≡ 1 + j = omega arith in
    let split : count_ones (m % 2 ^ (1 + j)) ≡ count_ones (bit_at m j * 2 ^ j + m % 2 ^ j) = ap count_ones (mod-pow-add m 1 j) in
    let cat = ones_cat j (bit_at m j) (m % 2 ^ j) (mod-lt m (pow_pos j)) in
    let bit = one_bit (bit_at m j) (bit_at-lt m j) in
    ap (λ e. count_ones (m % 2 ^ e)) offset ∙ split ∙ omega (arith, cat, bit)

pub ones_below : (m j : ℕ) → count_ones (m % 2 ^ j) ≤ count_ones m
ones_below m j =
    let split : count_ones (m / 2 ^ j * 2 ^ j + m % 2 ^ j) ≡ count_ones m = ap count_ones (shr_split m j) in
    let cat = ones_cat j (m / 2 ^ j) (m % 2 ^ j) (mod-lt m (pow_pos j)) in
    omega (arith, split, cat)

ones_up : (m n d : ℕ) → ((k : ℕ) → n ≤ k → bit_at m k ≡ 0) → count_ones (m % 2 ^ (n + d)) ≡ count_ones (m % 2 ^ n)
ones_up m n zero none = let offset : n + 0 ≡ n = omega arith in ap (λ e. count_ones (m % 2 ^ e)) offset
ones_up m n (suc d) none =
    let offset : n + suc d ≡ n + d + 1 = omega arith in
    let next = ones_next m (n + d) in
    let before = ones_up m n d none in
    let unset = none (n + d) (omega arith) in
    ap (λ e. count_ones (m % 2 ^ e)) offset ∙ omega (arith, next, before, unset)

below_own_power : (m : ℕ) → m < 2 ^ m
below_own_power zero = omega arith
below_own_power (suc m) =
    let half = below_own_power m in
    let double : 2 ^ suc m ≡ 2 ^ m + 2 ^ m = two-pow-succ m in
    omega (arith, half, double)

-- all of them stand below n
pub ones_whole : (m n : ℕ) → ((k : ℕ) → n ≤ k → bit_at m k ≡ 0) → count_ones (m % 2 ^ n) ≡ count_ones m
ones_whole m n none =
    let longer : 2 ^ m ≤ 2 ^ (n + m) = pow-le-pow_right (omega arith) (omega arith) in
    let fits : m < 2 ^ (n + m) = omega (arith, below_own_power m, longer) in
    sym (ones_up m n m none) ∙ ap count_ones (mod-eq_of_lt fits)
