-- Texts in the order of their canonical spellings.
use Rattle.std.proofs.Common.{◌≡◌, ℕ, zero, suc, ◌+◌, ◌-◌, ◌*◌, ◌/◌, ◌%◌, ◌<◌, ◌≤◌, true, List, [], ◌∷◌, ◌++◌, length, drop, refl, sym, ap, ◌∙◌, append_assoc, arith, inl, inr}
use Rattle.std.specs.Prelude.{◌==◌, not}
use Rattle.std.specs.Cmp.{nat_cmp_is, ranks}
use Rattle.std.specs.Cmp.Lexicographic.{slice_cmp}
use Rattle.std.specs.Ordering.{nat_cmp, ordering_then}
use Rattle.std.specs.declared.cmp.Ordering.{Ordering}
use Rattle.std.specs.declared.cmp.Ordering.TheVariants.{Less, Equal, Greater}
use Rattle.std.specs.Int.{is_in_range}
use Rattle.std.specs.List.{flat_map, list_all}
use Rattle.std.proofs.lemmas.Bool.{cases_lt, cond-true, cond-false, and_parts}
use Rattle.std.proofs.lemmas.Bool.Decides.{nat_tests}
use Rattle.std.proofs.lemmas.Cmp.{by_ranked, nat_cmp_total, tied_itself}
use Rattle.std.proofs.lemmas.Grind.{flat_map-append}
use Rattle.std.proofs.lemmas.List.Folds.{list_all-append}
use Rattle.uriparse_text.specs.declared.internal.token.Token.{Token}
use Rattle.uriparse_text.specs.declared.internal.token.Token.TheVariants.{Byte, Escape}
use Rattle.uriparse_text.specs.declared.internal.token.Case.{Case}
use Rattle.uriparse_text.specs.Bytes.{percent}
use Rattle.uriparse_text.specs.Tokens.{spell, is_token, is_well_formed}
use Rattle.uriparse_text.specs.Canonical.{canonical_in, canonical_tokens, in_case}
use Rattle.uriparse_text.specs.Alike.{AreCommon, Follow, rank_of, token_of, upper_digit_of}
use Rattle.uriparse_text.proofs.lemmas.canonical.CanonicalLemmas.{canonical_tokens-empty, spell-canonical_token, well_formed-canonical_token}
use Rattle.uriparse_text.proofs.lemmas.canonical.ComparisonLemmas.{byte_code, plain_front}

-- ---- what two texts have in common

pub nothing_cut : (case : Case) (left right : List ℕ) → Follow case left right left right
nothing_cut case left right = record { front = []; cut = refl; other_cut = refl }

pub follow : (case : Case) (n : ℕ) (left right : List ℕ) → AreCommon left right n → n ≤ length left → n ≤ length right
    → Follow case left right (drop n left) (drop n right)
follow case zero left right are h k = nothing_cut case left right
follow case (suc n) [] right are h k = absurd (omega arith)
follow case (suc n) (x ∷ left) [] are h k = absurd (omega arith)
follow case (suc n) (x ∷ left) (y ∷ right) are h k =
    let first = are 0 (omega arith) in
    let later = follow case n left right (λ i l. are (suc i) (omega arith)) (omega arith) (omega arith) in
    let other : canonical_tokens case (y ∷ right) ≡ Byte (in_case case x) ∷ canonical_tokens case right =
    plain_front case y right (ap (λ b. b == percent) (sym first.0) ∙ first.1) ∙ ap (λ b. Byte (in_case case b) ∷ canonical_tokens case right) (sym first.0) in
    record {
      front = Byte (in_case case x) ∷ later.front;
      cut = plain_front case x left first.1 ∙ ap (λ ts. Byte (in_case case x) ∷ ts) later.cut;
      other_cut = other ∙ ap (λ ts. Byte (in_case case x) ∷ ts) later.other_cut;
    }

-- one more token that both have, and then what both have in common after it
pub follow_on : (case : Case) (left right l r after later l2 r2 : List ℕ) (x y : ℕ) → Follow case left right l r
    → canonical_tokens case l ≡ token_of x ∷ canonical_tokens case after → canonical_tokens case r ≡ token_of y ∷ canonical_tokens case later → x ≡ y
    → Follow case after later l2 r2 → Follow case left right l2 r2
follow_on case left right l r after later l2 r2 x y f e g same next = record {
  front = f.front ++ token_of x ∷ next.front;
  cut = f.cut ∙ ap (λ ts. f.front ++ ts) (e ∙ ap (λ ts. token_of x ∷ ts) next.cut) ∙ sym (append_assoc f.front (token_of x ∷ next.front) (canonical_tokens case l2));
  other_cut = f.other_cut ∙ ap (λ ts. f.front ++ ts) (g ∙ ap (λ n. token_of n ∷ canonical_tokens case later) (sym same) ∙ ap (λ ts. token_of x ∷ ts) next.other_cut)
      ∙ sym (append_assoc f.front (token_of x ∷ next.front) (canonical_tokens case r2));
}

-- ---- the order of what is left

cancelled : (xs ys zs : List ℕ) → slice_cmp nat_cmp (xs ++ ys) (xs ++ zs) ≡ slice_cmp nat_cmp ys zs
cancelled [] ys zs = refl
cancelled (x ∷ xs) ys zs = ap (λ o. ordering_then o (slice_cmp nat_cmp (xs ++ ys) (xs ++ zs))) (tied_itself nat_cmp_total x) ∙ cancelled xs ys zs

spelled_front : (case : Case) (t u : List ℕ) (front : List Token) → canonical_tokens case t ≡ front ++ canonical_tokens case u
    → canonical_in case t ≡ flat_map spell front ++ flat_map spell (canonical_tokens case u)
spelled_front case t u front e = sym (spell-canonical_token case t) ∙ ap (flat_map spell) e ∙ flat_map-append spell front (canonical_tokens case u)

past_front : (case : Case) (left right l r : List ℕ) → Follow case left right l r
    → slice_cmp nat_cmp (flat_map spell (canonical_tokens case l)) (flat_map spell (canonical_tokens case r))
    ≡ slice_cmp nat_cmp (canonical_in case left) (canonical_in case right)
past_front case left right l r f =
    sym (cancelled (flat_map spell f.front) (flat_map spell (canonical_tokens case l)) (flat_map spell (canonical_tokens case r)))
    ∙ ap (λ t. slice_cmp nat_cmp t (flat_map spell f.front ++ flat_map spell (canonical_tokens case r))) (sym (spelled_front case left l f.front f.cut))
    ∙ ap (slice_cmp nat_cmp (canonical_in case left)) (sym (spelled_front case right r f.front f.other_cut))

-- each token that is left of a well-formed text is one
token_left : (case : Case) (t u : List ℕ) (front : List Token) (x : Token) (ts : List Token) → is_well_formed t ≡ true
    → canonical_tokens case t ≡ front ++ canonical_tokens case u → canonical_tokens case u ≡ x ∷ ts → is_token x ≡ true
token_left case t u front x ts formed e f =
    let each : list_all is_token (front ++ x ∷ ts) ≡ true =
    ap (list_all is_token) (ap (λ us. front ++ us) (sym f) ∙ sym e) ∙ well_formed-canonical_token case t ∙ formed in
    (and_parts _ _ (and_parts _ _ (sym (list_all-append is_token front (x ∷ ts)) ∙ each)).1).0

longer : (t : Token) (p : List ℕ) → slice_cmp nat_cmp (spell t ++ p) [] ≡ Greater
longer (Byte b) p = refl
longer (Escape high low) p = refl

shorter : (t : Token) (p : List ℕ) → slice_cmp nat_cmp [] (spell t ++ p) ≡ Less
shorter (Byte b) p = refl
shorter (Escape high low) p = refl

pub is_more : (case : Case) (left right l r after : List ℕ) (x : ℕ) → Follow case left right l r
    → canonical_tokens case l ≡ token_of x ∷ canonical_tokens case after → r ≡ []
    → Greater ≡ slice_cmp nat_cmp (canonical_in case left) (canonical_in case right)
is_more case left right l r after x f e none =
    sym (longer (token_of x) (flat_map spell (canonical_tokens case after)))
    ∙ ap (λ ts. slice_cmp nat_cmp (flat_map spell ts) []) (sym e)
    ∙ ap (λ ts. slice_cmp nat_cmp (flat_map spell (canonical_tokens case l)) (flat_map spell ts)) (sym (canonical_tokens-empty case r none))
    ∙ past_front case left right l r f

pub is_less : (case : Case) (left right l r later : List ℕ) (y : ℕ) → Follow case left right l r → l ≡ []
    → canonical_tokens case r ≡ token_of y ∷ canonical_tokens case later
    → Less ≡ slice_cmp nat_cmp (canonical_in case left) (canonical_in case right)
is_less case left right l r later y f none e =
    sym (shorter (token_of y) (flat_map spell (canonical_tokens case later)))
    ∙ ap (λ ts. slice_cmp nat_cmp [] (flat_map spell ts)) (sym e)
    ∙ ap (λ ts. slice_cmp nat_cmp (flat_map spell ts) (flat_map spell (canonical_tokens case r))) (sym (canonical_tokens-empty case l none))
    ∙ past_front case left right l r f

pub is_same : (case : Case) (left right l r : List ℕ) → Follow case left right l r → l ≡ [] → r ≡ []
    → Equal ≡ slice_cmp nat_cmp (canonical_in case left) (canonical_in case right)
is_same case left right l r f none empty =
    ap (λ ts. slice_cmp nat_cmp (flat_map spell ts) []) (sym (canonical_tokens-empty case l none))
    ∙ ap (λ ts. slice_cmp nat_cmp (flat_map spell (canonical_tokens case l)) (flat_map spell ts)) (sym (canonical_tokens-empty case r empty))
    ∙ past_front case left right l r f

-- ---- the order of two tokens

follows : (a b m n : ℕ) (later : Ordering) → (a < b → m < n) → (b < a → n < m) → (a ≡ b → ⊥) → ordering_then (nat_cmp a b) later ≡ nat_cmp m n
follows a b m n later less more other =
    by_ranked (a < b) (a ≡ b) (b < a) (nat_cmp a b) (ranks a b)
    (λ is h. ap (λ o. ordering_then o later) is ∙ nat_cmp_is m n Less (less h))
    (λ is h. absurd (other h))
    (λ is h. ap (λ o. ordering_then o later) is ∙ nat_cmp_is m n Greater (more h))

rises : (a b : ℕ) → a < b → b < 16 → upper_digit_of a < upper_digit_of b
rises a b less small = grind (arith, nat_tests)

escapes : (a b c d m n : ℕ) (later : Ordering) → a < 16 → b < 16 → c < 16 → d < 16 → m ≡ 256 * 37 + (16 * a + c) → n ≡ 256 * 37 + (16 * b + d) → (m ≡ n → ⊥)
    → ordering_then (nat_cmp (upper_digit_of a) (upper_digit_of b)) (ordering_then (nat_cmp (upper_digit_of c) (upper_digit_of d)) later) ≡ nat_cmp m n
escapes a b c d m n later sa sb sc sd em en other =
    by_ranked (a < b) (a ≡ b) (b < a) (nat_cmp a b) (ranks a b)
    (λ is h. ap (λ o. ordering_then o low) (sym (nat_cmp_is (upper_digit_of a) (upper_digit_of b) Less (rises a b h sb))) ∙ nat_cmp_is m n Less (omega (arith, em, en, sc, sd, h)))
    (λ is h. ap (λ o. ordering_then o low) (sym (nat_cmp_is (upper_digit_of a) (upper_digit_of b) Equal (ap upper_digit_of h)))
    ∙ by_ranked (c < d) (c ≡ d) (d < c) (nat_cmp c d) (ranks c d)
    (λ is k. ap (λ o. ordering_then o later) (sym (nat_cmp_is (upper_digit_of c) (upper_digit_of d) Less (rises c d k sd))) ∙ nat_cmp_is m n Less (omega (arith, em, en, h, k)))
    (λ is k. absurd (other (omega (arith, em, en, h, k))))
    (λ is k. ap (λ o. ordering_then o later) (sym (nat_cmp_is (upper_digit_of c) (upper_digit_of d) Greater (rises d c k sc))) ∙ nat_cmp_is m n Greater (omega (arith, em, en, h, k))))
    (λ is h. ap (λ o. ordering_then o low) (sym (nat_cmp_is (upper_digit_of a) (upper_digit_of b) Greater (rises b a h sa))) ∙ nat_cmp_is m n Greater (omega (arith, em, en, sc, sd, h)))
  where
    low : Ordering
    low = ordering_then (nat_cmp (upper_digit_of c) (upper_digit_of d)) later

byte_rank : (n : ℕ) → n < 256 → rank_of n ≡ 256 * n
byte_rank n small = cond-true (is_in_range 0 255 n) _ _ (grind (arith, nat_tests))

escape_rank : (n : ℕ) → 256 ≤ n → rank_of n ≡ 256 * 37 + (n - 256)
escape_rank n big = cond-false (is_in_range 0 255 n) _ _ (grind (arith, nat_tests))

escape_token : (n : ℕ) → 256 ≤ n → token_of n ≡ Escape (upper_digit_of ((n - 256) / 16)) (upper_digit_of (n % 16))
escape_token n big = cond-false (is_in_range 0 255 n) _ _ (grind (arith, nat_tests))

no_percent : (n : ℕ) → n < 256 → is_token (token_of n) ≡ true → n ≡ 37 → ⊥
no_percent n small h e =
    let plain : not (n == 37) ≡ true = ap is_token (sym (byte_code n small)) ∙ h in
    grind (arith, nat_tests)

ranked_tokens : (x y : ℕ) (p q : List ℕ) → x < 512 → y < 512 → is_token (token_of x) ≡ true → is_token (token_of y) ≡ true → (x ≡ y → ⊥)
    → slice_cmp nat_cmp (spell (token_of x) ++ p) (spell (token_of y) ++ q) ≡ nat_cmp (rank_of x) (rank_of y)
ranked_tokens x y p q sx sy tx ty other = elim (cases_lt x 256) [
  | inl bx ↦ elim (cases_lt y 256) [
    | inl by ↦ rw (byte_code x bx, byte_code y by, byte_rank x bx, byte_rank y by)
        (follows x y (256 * x) (256 * y) (slice_cmp nat_cmp p q) (λ h. omega (arith, h)) (λ h. omega (arith, h)) other)
    | inr ey ↦ rw (byte_code x bx, escape_token y ey, byte_rank x bx, escape_rank y ey)
        (follows x 37 (256 * x) (256 * 37 + (y - 256)) _ (λ h. omega (arith, h)) (λ h. omega (arith, h, sy)) (no_percent x bx tx))
  ]
  | inr ex ↦ elim (cases_lt y 256) [
    | inl by ↦ rw (escape_token x ex, byte_code y by, escape_rank x ex, byte_rank y by)
        (follows 37 y (256 * 37 + (x - 256)) (256 * y) _ (λ h. omega (arith, h, sx)) (λ h. omega (arith, h)) (λ h. no_percent y by ty (sym h)))
    | inr ey ↦ rw (escape_token x ex, escape_token y ey, escape_rank x ex, escape_rank y ey)
        (escapes ((x - 256) / 16) ((y - 256) / 16) (x % 16) (y % 16) (256 * 37 + (x - 256)) (256 * 37 + (y - 256)) (slice_cmp nat_cmp p q)
        (omega (arith, sx)) (omega (arith, sy)) (omega arith) (omega arith) (omega (arith, ex)) (omega (arith, ey)) (λ h. other (omega (arith, ex, ey, h))))
  ]
]

pub is_other : (case : Case) (left right l r after later : List ℕ) (x y : ℕ) → is_well_formed left ≡ true → is_well_formed right ≡ true → Follow case left right l r
    → canonical_tokens case l ≡ token_of x ∷ canonical_tokens case after → canonical_tokens case r ≡ token_of y ∷ canonical_tokens case later
    → x < 512 → y < 512 → (x ≡ y → ⊥)
    → nat_cmp (rank_of x) (rank_of y) ≡ slice_cmp nat_cmp (canonical_in case left) (canonical_in case right)
is_other case left right l r after later x y formed other_formed f e g sx sy other =
    sym (ranked_tokens x y (flat_map spell (canonical_tokens case after)) (flat_map spell (canonical_tokens case later)) sx sy
    (token_left case left l f.front (token_of x) (canonical_tokens case after) formed f.cut e)
    (token_left case right r f.front (token_of y) (canonical_tokens case later) other_formed f.other_cut g) other)
    ∙ ap (λ ts. slice_cmp nat_cmp (flat_map spell ts) (spell (token_of y) ++ flat_map spell (canonical_tokens case later))) (sym e)
    ∙ ap (λ ts. slice_cmp nat_cmp (flat_map spell (canonical_tokens case l)) (flat_map spell ts)) (sym g)
    ∙ past_front case left right l r f
