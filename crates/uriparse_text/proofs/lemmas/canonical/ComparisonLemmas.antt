-- Comparing texts by what they have in common, and by the codes of their tokens.
use Rattle.std.proofs.Common.{◌≡◌, ◌↔◌, ℕ, zero, suc, ◌+◌, ◌-◌, ◌*◌, ◌/◌, ◌%◌, ◌^◌, ◌<◌, ◌≤◌, Bool, true, false, cond, eqb, List, [], ◌∷◌, Option, Some, None}
use Rattle.std.proofs.Common.{map, length, get_or, drop, replicate, bit_or, refl, sym, ap, ◌∙◌, arith, inl, inr, w8}
use Rattle.std.specs.Prelude.{not, ◌==◌}
use Rattle.std.specs.List.{flat_map}
use Rattle.std.specs.Int.{bit_at, is_in_range}
use Rattle.std.specs.Char.{digit_value, to_ascii_uppercase}
use Rattle.std.specs.Simd.Lanes.{mask_l, chunk, zip2, top}
use Rattle.std.proofs.lemmas.Bool.{agree_below_at, cases_lt, cond-true, cond-false, and_parts, eqb-true}
use Rattle.std.proofs.lemmas.Bool.Decides.{nat_tests}
use Rattle.std.proofs.lemmas.List.{get_or-map, get_or_past, length-map, nil_from_length}
use Rattle.std.proofs.lemmas.Nat.Bits.{bit_at_or, bit_at-lt}
use Rattle.std.proofs.lemmas.Simd.{bit_mask_l, bitmask_splat, mask_l-mod, tops_compared, length-chunk, get_or-chunk, length-zip2, get_or-zip2}
use Rattle.uriparse_text.specs.declared.internal.token.Token.{Token}
use Rattle.uriparse_text.specs.declared.internal.token.Token.TheVariants.{Byte, Escape}
use Rattle.uriparse_text.specs.declared.internal.token.Case.{Case}
use Rattle.uriparse_text.specs.declared.internal.token.Case.TheVariants.{Kept, Lowered}
use Rattle.uriparse_text.specs.Bytes.{percent, is_hex, is_unreserved}
use Rattle.uriparse_text.specs.Tokens.{tokens, spell, is_escape}
use Rattle.uriparse_text.specs.Canonical.{canonical_token, canonical_tokens, escaped_byte, in_case}
use Rattle.uriparse_text.specs.Alike.{upper_digit_of, token_of, AreCommon}
use Rattle.uriparse_text.proofs.lemmas.tokens.TokenLemmas.{tokens-escape, tokens-byte, escape_at, spell-tokens}
use Rattle.uriparse_text.proofs.lemmas.canonical.CanonicalLemmas.{canonical_tokens-empty}
use Rattle.uriparse_text.proofs.lemmas.canonical.RunLemmas.{no_escape}

-- ---- codes

upper_digit : (b : ℕ) → is_hex b ≡ true → to_ascii_uppercase b ≡ upper_digit_of (digit_value b)
upper_digit b h = grind (arith, nat_tests)

digit_small : (b : ℕ) → is_hex b ≡ true → digit_value b < 16
digit_small b h = grind (arith, nat_tests)

pub byte_code : (n : ℕ) → n < 256 → token_of n ≡ Byte n
byte_code n small = cond-true (is_in_range 0 255 n) _ _ (grind (arith, nat_tests))

escape_code : (h l : ℕ) → h < 16 → l < 16 → token_of (256 + (16 * h + l)) ≡ Escape (upper_digit_of h) (upper_digit_of l)
escape_code h l high low =
    let front : (256 + (16 * h + l) - 256) / 16 ≡ h = omega arith in
    let back : (256 + (16 * h + l)) % 16 ≡ l = omega arith in
    cond-false (is_in_range 0 255 (256 + (16 * h + l))) _ _ (grind (arith, nat_tests))
    ∙ ap (λ x. Escape (upper_digit_of x) (upper_digit_of ((256 + (16 * h + l)) % 16))) front
    ∙ ap (λ x. Escape (upper_digit_of h) (upper_digit_of x)) back

pub in_case_small : (case : Case) (b : ℕ) → b < 256 → in_case case b < 256
in_case_small Kept b h = h
in_case_small Lowered b h = grind (arith, nat_tests)

escape_from : (v : Bool) (x y : ℕ) → Some y ≡ cond {A = Option ℕ} v (Some x) None → (v ≡ true) × (y ≡ x)
escape_from true x y h = (refl, cc)
escape_from false x y h = cc

no_escape_from : (v : Bool) (x : ℕ) → None ≡ cond {A = Option ℕ} v (Some x) None → v ≡ false
no_escape_from true x h = cc
no_escape_from false x h = refl

-- the byte that an escape with these two stands for, if they begin one
abbrev escaped : ℕ → List ℕ → Option ℕ
escaped b after = cond (is_escape b after) (Some (escaped_byte (get_or after 0 0) (get_or after 1 0))) None

-- an escape at the front, by the byte that it stands for
pub unreserved_front : (case : Case) (text : List ℕ) (b : ℕ) (after : List ℕ) (v : ℕ) → text ≡ b ∷ after → Some v ≡ escaped b after →
    is_unreserved v ≡ true → v < 256
    → canonical_tokens case text ≡ token_of (in_case case v) ∷ canonical_tokens case (drop 2 after)
unreserved_front case text b after v e o free small =
    let is = escape_from (is_escape b after) (escaped_byte (get_or after 0 0) (get_or after 1 0)) v o in
    ap (canonical_tokens case) e ∙ ap (map (canonical_token case)) (tokens-escape b after is.0)
    ∙ ap (λ t. t ∷ canonical_tokens case (drop 2 after)) (cond-true (is_unreserved (escaped_byte (get_or after 0 0) (get_or after 1 0))) _ _
    (ap is_unreserved (sym is.1) ∙ free)
    ∙ ap (λ x. Byte (in_case case x)) (sym is.1) ∙ sym (byte_code (in_case case v) (in_case_small case v small)))

pub escape_front : (case : Case) (text : List ℕ) (b : ℕ) (after : List ℕ) (v : ℕ) → text ≡ b ∷ after → Some v ≡ escaped b after → is_unreserved v ≡ false
    → canonical_tokens case text ≡ token_of (256 + v) ∷ canonical_tokens case (drop 2 after)
escape_front case text b after v e o reserved =
    let high = get_or after 0 0 in
    let low = get_or after 1 0 in
    let is = escape_from (is_escape b after) (escaped_byte high low) v o in
    let digits = and_parts _ _ (escape_at b after is.0).digits in
    let upper : Escape (to_ascii_uppercase high) (to_ascii_uppercase low) ≡ token_of (256 + v) =
    ap (λ x. Escape x (to_ascii_uppercase low)) (upper_digit high digits.0) ∙ ap (λ x. Escape (upper_digit_of (digit_value high)) x) (upper_digit low digits.1)
    ∙ sym (escape_code (digit_value high) (digit_value low) (digit_small high digits.0) (digit_small low digits.1)) ∙ ap (λ x. token_of (256 + x)) (sym is.1) in
    ap (canonical_tokens case) e ∙ ap (map (canonical_token case)) (tokens-escape b after is.0)
    ∙ ap (λ t. t ∷ canonical_tokens case (drop 2 after)) (cond-false (is_unreserved (escaped_byte high low)) _ _ (ap is_unreserved (sym is.1) ∙ reserved)
    ∙ upper)

pub byte_front : (case : Case) (text : List ℕ) (b : ℕ) (after : List ℕ) → text ≡ b ∷ after → None ≡ escaped b after → b < 256
    → canonical_tokens case text ≡ token_of (in_case case b) ∷ canonical_tokens case after
byte_front case text b after e o small =
    ap (canonical_tokens case) e ∙ ap (map (canonical_token case)) (tokens-byte b after (no_escape_from (is_escape b after) _ o))
    ∙ ap (λ t. t ∷ canonical_tokens case after) (sym (byte_code (in_case case b) (in_case_small case b small)))

code_of : Token → ℕ
code_of (Byte b) = b
code_of (Escape high low) = 256 + escaped_byte high low

code_back : (n : ℕ) → n < 512 → code_of (token_of n) ≡ n
unfolding code_of
code_back n small = eqb-true (code_of (token_of n)) n (agree_below_at (λ n. eqb (code_of (token_of n)) n) (λ _. true) 512 n refl small)

-- different codes are those of different tokens
pub one_code : (m n : ℕ) → m < 512 → n < 512 → token_of m ≡ token_of n → m ≡ n
one_code m n small less e = sym (code_back m small) ∙ ap code_of e ∙ code_back n less

-- one token is cut off both texts
pub same_fronts : (us vs after_us after_vs : List Token) (m n : ℕ) → us ≡ token_of m ∷ after_us → vs ≡ token_of n ∷ after_vs → m ≡ n
    → (after_us ≡ after_vs) ↔ (us ≡ vs)
same_fronts us vs after_us after_vs m n e f same =
    let other : vs ≡ token_of m ∷ after_vs = f ∙ ap (λ x. token_of x ∷ after_vs) (sym same) in
    (λ h. e ∙ ap (λ ts. token_of m ∷ ts) h ∙ sym other, λ h. let joined : token_of m ∷ after_us ≡ token_of m ∷ after_vs = sym e ∙ h ∙ other in cc)

-- different ones are
pub other_fronts : (us vs after_us after_vs : List Token) (m n : ℕ) → us ≡ token_of m ∷ after_us → vs ≡ token_of n ∷ after_vs → m < 512 → n < 512 → (m ≡ n →
    ⊥) → us ≡ vs → ⊥
other_fronts us vs after_us after_vs m n e f small less differs h =
    let joined : token_of m ∷ after_us ≡ token_of n ∷ after_vs = sym e ∙ h ∙ f in
    let first : token_of m ≡ token_of n = cc in
    differs (one_code m n small less first)

no_tokens : (case : Case) (ts : List Token) → map (canonical_token case) ts ≡ [] → ts ≡ []
no_tokens case [] h = refl
no_tokens case (t ∷ ts) h = cc

nothing_left : (case : Case) (t : List ℕ) → canonical_tokens case t ≡ [] → t ≡ []
nothing_left case t h = sym (spell-tokens t) ∙ ap (flat_map spell) (no_tokens case (tokens t) h)

-- where one text has ended
pub both_end : (case : Case) (left right : List ℕ) (us vs : List Token) (r : Bool) → left ≡ [] →
    (canonical_tokens case left ≡ canonical_tokens case right) ↔ (us ≡ vs)
    → r ≡ (length right == 0) → (r ≡ true) ↔ (us ≡ vs)
both_end case left right us vs r end iff e =
    let empty : canonical_tokens case left ≡ [] = canonical_tokens-empty case left end in (
      λ h. iff.0 (empty ∙ sym (canonical_tokens-empty case right (nil_from_length right (eqb-true (length right) 0 (sym e ∙ h))))),
      λ h. e ∙ ap (λ t. length t == 0) (nothing_left case right (sym (iff.1 h) ∙ empty)),
    )

-- ---- what texts have in common

pub plain_front : (case : Case) (b : ℕ) (t : List ℕ) → (b == percent) ≡ false → canonical_tokens case (b ∷ t) ≡ Byte (in_case case b) ∷ canonical_tokens case t
plain_front case b t h = ap (map (canonical_token case)) (tokens-byte b t (no_escape b t h))

more_same : (case : Case) (x y : ℕ) (l r : List ℕ) → x ≡ y → (x == percent) ≡ false
    → (canonical_tokens case l ≡ canonical_tokens case r) ↔ (canonical_tokens case (x ∷ l) ≡ canonical_tokens case (y ∷ r))
more_same case x y l r same plain =
    let front = plain_front case x l plain in
    let other : canonical_tokens case (y ∷ r) ≡ Byte (in_case case x) ∷ canonical_tokens case r =
    plain_front case y r (ap (λ b. b == percent) (sym same) ∙ plain) ∙ ap (λ b. Byte (in_case case b) ∷ canonical_tokens case r) (sym same) in
    (λ h. front ∙ ap (λ ts. Byte (in_case case x) ∷ ts) h ∙ sym other, λ h. let joined = sym front ∙ h ∙ other in cc)

pub after_common : (case : Case) (n : ℕ) (left right : List ℕ) → AreCommon left right n → n ≤ length left → n ≤ length right
    → (canonical_tokens case (drop n left) ≡ canonical_tokens case (drop n right)) ↔ (canonical_tokens case left ≡ canonical_tokens case right)
after_common case zero left right are h k = (λ e. e, λ e. e)
after_common case (suc n) [] right are h k = absurd (omega arith)
after_common case (suc n) (x ∷ left) [] are h k = absurd (omega arith)
after_common case (suc n) (x ∷ left) (y ∷ right) are h k =
    let first = are 0 (omega arith) in
    let here = more_same case x y left right first.0 first.1 in
    let later = after_common case n left right (λ i l. are (suc i) (omega arith)) (omega arith) (omega arith) in
    (λ e. here.0 (later.0 e), λ e. later.1 (here.1 e))

-- that many more from a place on
pub common_more : (left right : List ℕ) (at n : ℕ) → AreCommon left right at
    → ((k : ℕ) → k < n → (get_or left (at + k) 0 ≡ get_or right (at + k) 0) × ((get_or left (at + k) 0 == percent) ≡ false)) → AreCommon left right (at + n)
common_more left right at n are more k h = elim (cases_lt k at) [
  | inl before ↦ are k before
  | inr past ↦
      let offset : at + (k - at) ≡ k = omega arith in
      let here = more (k - at) (omega arith) in
      (ap (λ i. get_or left i 0) (sym offset) ∙ here.0 ∙ ap (λ i. get_or right i 0) offset, ap (λ i. get_or left i 0 == percent) (sym offset) ∙ here.1)
]

-- ---- marks of two runs of bytes

abbrev differ : ℕ → ℕ → Bool
differ a b = not (eqb a b)

unset : (v : Bool) → ◌≡◌ {A = ℕ} (cond v 1 0) 0 → v ≡ false
unset true h = absurd (omega arith)
unset false h = refl

module _ (left right : List ℕ) (at n : ℕ) where
  abbrev pairs : List Bool
  pairs = zip2 differ (chunk at n left) (chunk at n right)

  abbrev signs : List Bool
  signs = map (λ x. eqb x 37) (chunk at n left)

  module _ (in_left : at + n ≤ length left) (in_right : at + n ≤ length right) where
    pub long_pairs : length pairs ≡ n
    long_pairs = length-zip2 differ (chunk at n left) (chunk at n right) (length-chunk at n left in_left ∙ sym (length-chunk at n right in_right))
        ∙ length-chunk at n left in_left

    pub long_signs : length signs ≡ n
    long_signs = length-map (chunk at n left) (λ x. eqb x 37) ∙ length-chunk at n left in_left

    pub pair_mask : n ≤ 64 → mask_l (map (top 7) (zip2 (λ a b. cond (differ a b) 255 0) (chunk at n left) (chunk at n right))) % 2 ^ 64 ≡ mask_l pairs
    pair_mask few = ap (λ ms. mask_l ms % 2 ^ 64) (tops_compared w8 differ (chunk at n left) (chunk at n right))
        ∙ mask_l-mod pairs 64 (omega (arith, long_pairs))

    pub sign_mask : n ≤ 64 → mask_l (map (top 7) (zip2 (λ a b. cond (eqb a b) 255 0) (chunk at n left) (replicate n 37))) % 2 ^ 64 ≡ mask_l signs
    sign_mask few = bitmask_splat w8 eqb (chunk at n left) n 37 (length-chunk at n left in_left) few

    bit_past : (ms : List Bool) (k : ℕ) → length ms ≤ k → bit_at (mask_l ms) k ≡ 0
    bit_past ms k h = bit_mask_l ms k ∙ ap (λ v. cond v 1 0) (get_or_past ms k false h)

    pub mark_within : (k : ℕ) → bit_at (bit_or (mask_l pairs) (mask_l signs)) k ≡ 1 → k < n
    mark_within k set = elim (cases_lt k n) [
      | inl h ↦ h
      | inr h ↦ absurd (omega (
        arith,
        set,
        bit_at_or (mask_l pairs) (mask_l signs) k,
        bit_past pairs k (omega (arith, long_pairs)),
        bit_past signs k (omega (arith, long_signs)),
      ))
    ]

    pub unmarked : (k : ℕ) → k < n → bit_at (bit_or (mask_l pairs) (mask_l signs)) k ≡ 0
        → (get_or left (at + k) 0 ≡ get_or right (at + k) 0) × ((get_or left (at + k) 0 == percent) ≡ false)
    unmarked k h clear =
        let inside : k < length (chunk at n left) = omega (arith, length-chunk at n left in_left) in
        let other : k < length (chunk at n right) = omega (arith, length-chunk at n right in_right) in
        let x = get_or-chunk at n left k 0 h in
        let y = get_or-chunk at n right k 0 h in
        let bits = bit_at_or (mask_l pairs) (mask_l signs) k in
        let no_pair : bit_at (mask_l pairs) k ≡ 0 = omega (arith, bits, clear, bit_at-lt (mask_l pairs) k, bit_at-lt (mask_l signs) k) in
        let no_sign : bit_at (mask_l signs) k ≡ 0 = omega (arith, bits, clear, bit_at-lt (mask_l pairs) k, bit_at-lt (mask_l signs) k) in
        let alike : differ (get_or (chunk at n left) k 0) (get_or (chunk at n right) k 0) ≡ false =
        sym (get_or-zip2 differ (chunk at n left) (chunk at n right) k 0 0 false inside other) ∙ unset (get_or pairs k false) (sym (bit_mask_l pairs k)
        ∙ no_pair) in
        let plain : eqb (get_or (chunk at n left) k 0) 37 ≡ false =
        sym (get_or-map (λ b. eqb b 37) (chunk at n left) k 0 false inside) ∙ unset (get_or signs k false) (sym (bit_mask_l signs k) ∙ no_sign) in
        (sym x ∙ same_from (get_or (chunk at n left) k 0) (get_or (chunk at n right) k 0) alike ∙ y, ap (λ b. b == percent) (sym x) ∙ plain)
      where
        same_from : (a b : ℕ) → differ a b ≡ false → a ≡ b
        same_from a b e = grind (arith, nat_tests)
