-- What operations on sixteen bytes say of each byte.
use Rattle.std.proofs.Common.{◌≡◌, ℕ, zero, suc, ◌+◌, ◌*◌, ◌/◌, ◌%◌, ◌^◌, ◌<◌, Bool, true, false, cond, eqb, ◌||◌, List, [], ◌∷◌, map, length, get_or}
use Rattle.std.proofs.Common.{replicate, bit_and, bit_or, refl, sym, ap, ◌∙◌, arith, w8, Fits}
use Rattle.std.specs.Prelude.{not}
use Rattle.std.specs.Simd.Lanes.{zip2, sel_l, mask_l, top, Each1}
use Rattle.std.proofs.lemmas.Bool.{agree_below_at}
use Rattle.std.proofs.lemmas.List.{get_or-map, length-map, ext_get_or}
use Rattle.std.proofs.lemmas.Nat.{and_le_r}
use Rattle.std.proofs.lemmas.Simd.{Each1-all, Each1-weaker, Each1-zip2, Each2-splat, below_from_Fits, length-zip2, zip2_splat, zip2_of_maps, splat_is_map}
use Rattle.std.proofs.lemmas.Simd.{tops_compared, map-map, bitmask_splat, swz_l, SwzOk, SwzOk-from_below, length-swz_l, get_or-swz_l_below}
use Rattle.uriparse_text.specs.declared.internal.class.Class.{Class}
use Rattle.uriparse_text.specs.declared.internal.class.Class.TheVariants.{Name, UserInfo, Segment, Query}
use Rattle.uriparse_text.specs.declared.internal.token.Case.TheVariants.{Kept, Lowered}
use Rattle.uriparse_text.specs.declared.internal.canonical.TheConstants.{CHANGE_LOW, CHANGE_HIGH}
use Rattle.uriparse_text.specs.declared.internal.class.TheConstants.{LOW, HIGH}
use Rattle.uriparse_text.specs.declared.internal.scan.TheConstants.{HEX_LOW, HEX_HIGH}
use Rattle.uriparse_text.specs.Bytes.{is_hex, is_unreserved, is_sub_delim}
use Rattle.uriparse_text.specs.Classes.{is_plain}
use Rattle.uriparse_text.specs.Canonical.{may_change}

abbrev pub AreLanes : List ℕ → Type 0
AreLanes v = (length v ≡ 16) × Each1 (Fits w8) v

lane_fits : (v : List ℕ) (i : ℕ) → Each1 (Fits w8) v → get_or v i 0 < 256
lane_fits [] i h = omega arith
lane_fits (x ∷ xs) zero h = h.0.fits
lane_fits (x ∷ xs) (suc i) h = lane_fits xs i h.1

abbrev low : ℕ → ℕ
low b = bit_and b 15

abbrev high : ℕ → ℕ → ℕ
high b s = b / 2 ^ s

pub low_ok : (v : List ℕ) → AreLanes v → SwzOk w8 16 16 0 (zip2 bit_and v (replicate 16 15))
low_ok v fits =
    let small = Each1-all (λ a. bit_and a 15 < 16) (λ a. omega (arith, and_le_r a 15)) v in
    SwzOk-from_below w8 16 1 16 0 (zip2 bit_and v (replicate 16 15)) refl (omega (arith, length-zip2 bit_and v (replicate 16 15) fits.0, fits.0))
    (Each1-zip2 bit_and (λ j. j < 16) v (replicate 16 15) (Each2-splat (λ a b. bit_and a b < 16) v 16 15 small))

pub high_ok : (v : List ℕ) → AreLanes v → SwzOk w8 16 16 0 (zip2 high v (replicate 16 4))
high_ok v fits =
    let small = Each1-weaker (λ a. a < 256) (λ a. a / 16 < 16) (λ a h. omega arith) v (below_from_Fits w8 v fits.1) in
    SwzOk-from_below w8 16 1 16 0 (zip2 high v (replicate 16 4)) refl (omega (arith, length-zip2 high v (replicate 16 4) fits.0, fits.0))
    (Each1-zip2 high (λ j. j < 16) v (replicate 16 4) (Each2-splat (λ a b. high a b < 16) v 16 4 small))

-- a table of sixteen, read at a place below 16, one for each byte
looked_up : (t : List ℕ) (g : ℕ → ℕ) (v js : List ℕ) → AreLanes v → js ≡ map g v → ((x : ℕ) → x < 256 → g x < 16)
    → swz_l w8 16 t 0 js ≡ map (λ x. get_or t (g x) 0) v
looked_up t g v js fits e small =
    let long : length js ≡ 16 = ap length e ∙ length-map v g ∙ fits.0 in
    ext_get_or 0 _ _ (length-swz_l w8 16 t 0 js ∙ long ∙ sym (length-map v (λ x. get_or t (g x) 0) ∙ fits.0)) (λ i h.
    let lt : i < 16 = omega (arith, length-swz_l w8 16 t 0 js) in
    let within : i < length v = omega (arith, fits.0) in
    let is : get_or js i 0 ≡ g (get_or v i 0) = ap (λ l. get_or l i 0) e ∙ get_or-map g v i 0 0 within in
    let below : get_or js i 0 < 16 = omega (arith, small (get_or v i 0) (lane_fits v i fits.1)) in
    let offset : 16 * ((0 + i) / 16) + get_or js i 0 ≡ g (get_or v i 0) = omega arith in
    get_or-swz_l_below w8 16 t 0 js i (omega arith) below ∙ ap (λ k. get_or t k 0) offset
    ∙ sym (get_or-map (λ x. get_or t (g x) 0) v i 0 0 within))

pub looked_up_low : (t v : List ℕ) → AreLanes v → swz_l w8 16 t 0 (zip2 bit_and v (replicate 16 15)) ≡ map (λ b. get_or t (bit_and b 15) 0) v
looked_up_low t v fits =
    looked_up t (λ b. bit_and b 15) v _ fits (zip2_splat bit_and v 16 15 fits.0) (λ x h. omega (arith, and_le_r x 15))

pub looked_up_high : (t v : List ℕ) → AreLanes v → swz_l w8 16 t 0 (zip2 high v (replicate 16 4)) ≡ map (λ b. get_or t (b / 16) 0) v
looked_up_high t v fits =
    looked_up t (λ b. b / 16) v _ fits (zip2_splat high v 16 4 fits.0) (λ x h. omega arith)

-- two tests that agree on bytes
same_tests : (p q : ℕ → Bool) → ((b : ℕ) → b < 256 → p b ≡ q b) → (v : List ℕ) → Each1 (Fits w8) v → map p v ≡ map q v
same_tests p q same [] fits = refl
same_tests p q same (b ∷ v) fits =
    rw (same b fits.0.fits) (ap (λ l. q b ∷ l) (same_tests p q same v fits.1))

-- ---- classes

-- the byte is of none of these kinds
abbrev of_none : ℕ → ℕ → Bool
of_none kinds b = eqb (bit_and (bit_and (get_or LOW (bit_and b 15) 0) (get_or HIGH (b / 16) 0)) kinds) 0

abbrev outside : Class → ℕ → Bool
outside class b = not (is_plain class b)

pub name_kinds : (b : ℕ) → b < 256 → of_none 31 b ≡ outside Name b
unfolding is_plain is_unreserved is_sub_delim
name_kinds b small = agree_below_at (of_none 31) (outside Name) 256 b refl small

pub user_info_kinds : (b : ℕ) → b < 256 → of_none 63 b ≡ outside UserInfo b
unfolding is_plain is_unreserved is_sub_delim
user_info_kinds b small = agree_below_at (of_none 63) (outside UserInfo) 256 b refl small

pub segment_kinds : (b : ℕ) → b < 256 → of_none 127 b ≡ outside Segment b
unfolding is_plain is_unreserved is_sub_delim
segment_kinds b small = agree_below_at (of_none 127) (outside Segment) 256 b refl small

pub query_kinds : (b : ℕ) → b < 256 → of_none 255 b ≡ outside Query b
unfolding is_plain is_unreserved is_sub_delim
query_kinds b small = agree_below_at (of_none 255) (outside Query) 256 b refl small

pub class_marks : (kinds : ℕ) (class : Class) (v lows highs : List ℕ) → AreLanes v → ((b : ℕ) → b < 256 → of_none kinds b ≡ outside class b)
    → lows ≡ map (λ b. get_or LOW (bit_and b 15) 0) v → highs ≡ map (λ b. get_or HIGH (b / 16) 0) v
    → mask_l (map (top 7) (zip2 (λ a b. cond (eqb a b) 255 0) (zip2 bit_and (zip2 bit_and lows highs) (replicate 16 kinds)) (replicate 16 0))) % 2 ^ 64
    ≡ mask_l (map (outside class) v)
class_marks kinds class v lows highs fits same l h =
    let both : zip2 bit_and lows highs ≡ map (λ b. bit_and (get_or LOW (bit_and b 15) 0) (get_or HIGH (b / 16) 0)) v =
    zip2_of_maps bit_and (λ b. get_or LOW (bit_and b 15) 0) (λ b. get_or HIGH (b / 16) 0) v l h in
    let all : zip2 bit_and (zip2 bit_and lows highs) (replicate 16 kinds)
    ≡ map (λ b. bit_and (bit_and (get_or LOW (bit_and b 15) 0) (get_or HIGH (b / 16) 0)) kinds) v =
    zip2_of_maps bit_and (λ b. bit_and (get_or LOW (bit_and b 15) 0) (get_or HIGH (b / 16) 0)) (λ _. kinds) v both
    (splat_is_map v 16 kinds fits.0) in
    let long : length (zip2 bit_and (zip2 bit_and lows highs) (replicate 16 kinds)) ≡ 16 = ap length all ∙ length-map v _ ∙ fits.0 in
    bitmask_splat w8 eqb (zip2 bit_and (zip2 bit_and lows highs) (replicate 16 kinds)) 16 0 long (omega arith)
    ∙ ap mask_l (ap (map (λ x. eqb x 0)) all ∙ map-map (λ x. eqb x 0) _ v ∙ same_tests (of_none kinds) (outside class) same v fits.1)

-- ---- hexadecimal digits

-- a byte that has a kind by two tables passes the test
pub marks_by_tables : (table other : List ℕ) (p : ℕ → Bool) → ((b : ℕ) → b < 256 →
    not (eqb (bit_and (get_or table (bit_and b 15) 0) (get_or other (b / 16) 0)) 0) ≡ p b)
    → (v lows highs : List ℕ) → AreLanes v → lows ≡ map (λ b. get_or table (bit_and b 15) 0) v → highs ≡ map (λ b. get_or other (b / 16) 0) v
    → mask_l (map (top 7) (zip2 (λ a b. cond (not (eqb a b)) 255 0) (zip2 bit_and lows highs) (replicate 16 0))) % 2 ^ 64 ≡ mask_l (map p v)
marks_by_tables table other p same v lows highs fits l h =
    let kinds : ℕ → ℕ = λ b. bit_and (get_or table (bit_and b 15) 0) (get_or other (b / 16) 0) in
    let both : zip2 bit_and lows highs ≡ map kinds v = zip2_of_maps bit_and (λ b. get_or table (bit_and b 15) 0) (λ b. get_or other (b / 16) 0) v l h in
    let long : length (zip2 bit_and lows highs) ≡ 16 = ap length both ∙ length-map v _ ∙ fits.0 in
    bitmask_splat w8 (λ a b. not (eqb a b)) (zip2 bit_and lows highs) 16 0 long (omega arith)
    ∙ ap mask_l (ap (map (λ x. not (eqb x 0))) both ∙ map-map (λ x. not (eqb x 0)) _ v ∙ same_tests (λ b. not (eqb (kinds b) 0)) p same v fits.1)

abbrev hex_kinds : ℕ → ℕ
hex_kinds b = bit_and (get_or HEX_LOW (bit_and b 15) 0) (get_or HEX_HIGH (b / 16) 0)

pub hex_kind : (b : ℕ) → b < 256 → not (eqb (hex_kinds b) 0) ≡ is_hex b
hex_kind b small = agree_below_at (λ b. not (eqb (hex_kinds b) 0)) is_hex 256 b refl small

-- ---- bytes that may change in a canonical spelling

abbrev change_kinds : ℕ → ℕ
change_kinds b = bit_and (get_or CHANGE_LOW (bit_and b 15) 0) (get_or CHANGE_HIGH (b / 16) 0)

pub change_kind : (b : ℕ) → b < 256 → not (eqb (change_kinds b) 0) ≡ may_change Lowered b
change_kind b small = agree_below_at (λ b. not (eqb (change_kinds b) 0)) (may_change Lowered) 256 b refl small

pub kept_marks : (v : List ℕ) → AreLanes v → mask_l (map (λ b. eqb b 37) v) ≡ mask_l (map (may_change Kept) v)
kept_marks v fits = ap mask_l (same_tests (λ b. eqb b 37) (may_change Kept) (λ b small. agree_below_at (λ b. eqb b 37)
    (may_change Kept) 256 b refl small) v fits.1)

-- ---- one of three bytes

select_each : (t : ℕ → ℕ → Bool) (x y z : ℕ) (v : List ℕ)
    → sel_l (zip2 t v (replicate (length v) x)) (replicate (length v) y) (replicate (length v) z) ≡ map (λ b. cond (t b x) y z) v
select_each t x y z [] = refl
select_each t x y z (b ∷ v) = ap (λ l. cond (t b x) y z ∷ l) (select_each t x y z v)

pub ones_where : (v : List ℕ) (x : ℕ) → AreLanes v
    → sel_l {A = ℕ} (map (top 7) (zip2 (λ a b. cond (eqb a b) 255 0) v (replicate 16 x))) (replicate 16 1) (replicate 16 0)
    ≡ map (λ b. cond (eqb b x) 1 0) v
ones_where v x fits =
    ap (λ ms. sel_l {A = ℕ} ms (replicate 16 1) (replicate 16 0)) (tops_compared w8 eqb v (replicate 16 x))
    ∙ ap (λ n. sel_l {A = ℕ} (zip2 eqb v (replicate n x)) (replicate n 1) (replicate n 0)) (sym fits.0)
    ∙ select_each eqb x 1 0 v

abbrev one : Bool → ℕ
one v = cond v 1 0

any_one : (u v w : Bool) → not (eqb (bit_or (bit_or (one u) (one v)) (one w)) 0) ≡ (u || v || w)
any_one true true true = refl
any_one true true false = refl
any_one true false true = refl
any_one true false false = refl
any_one false true true = refl
any_one false true false = refl
any_one false false true = refl
any_one false false false = refl

pub any_marks : (x y z : ℕ) (v xs ys zs : List ℕ) → AreLanes v
    → xs ≡ map (λ b. one (eqb b x)) v → ys ≡ map (λ b. one (eqb b y)) v → zs ≡ map (λ b. one (eqb b z)) v
    → mask_l (map (top 7) (zip2 (λ a b. cond (not (eqb a b)) 255 0) (zip2 bit_or (zip2 bit_or xs ys) zs) (replicate 16 0))) % 2 ^ 64
    ≡ mask_l (map (λ b. eqb b x || eqb b y || eqb b z) v)
any_marks x y z v xs ys zs fits e f g =
    let two : zip2 bit_or xs ys ≡ map (λ b. bit_or (one (eqb b x)) (one (eqb b y))) v =
    zip2_of_maps bit_or (λ b. one (eqb b x)) (λ b. one (eqb b y)) v e f in
    let all : zip2 bit_or (zip2 bit_or xs ys) zs ≡ map (λ b. bit_or (bit_or (one (eqb b x)) (one (eqb b y))) (one (eqb b z))) v =
    zip2_of_maps bit_or (λ b. bit_or (one (eqb b x)) (one (eqb b y))) (λ b. one (eqb b z)) v two g in
    let long : length (zip2 bit_or (zip2 bit_or xs ys) zs) ≡ 16 = ap length all ∙ length-map v _ ∙ fits.0 in
    bitmask_splat w8 (λ a b. not (eqb a b)) (zip2 bit_or (zip2 bit_or xs ys) zs) 16 0 long (omega arith)
    ∙ ap mask_l (ap (map (λ a. not (eqb a 0))) all ∙ map-map (λ a. not (eqb a 0)) _ v ∙ same_tests _ _ (λ b _. any_one (eqb b x) (eqb b y) (eqb b z)) v fits.1)
