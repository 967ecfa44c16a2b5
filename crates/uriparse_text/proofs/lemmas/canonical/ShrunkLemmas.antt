-- Escapes of unreserved bytes, and how much shorter they make canonical spellings.
use Rattle.std.proofs.Common.{◌≡◌, ℕ, zero, suc, ◌+◌, ◌-◌, ◌*◌, ◌/◌, ◌%◌, ◌^◌, ◌<◌, ◌≤◌, Bool, true, false, cond, eqb, not, ◌&&◌, List, [], ◌∷◌, map, length, length-append, get_or, drop, bit_and, count_ones, replicate, refl, sym, ap, ◌∙◌, arith, inl, inr, length-drop}
use Rattle.std.specs.Prelude.{◌==◌}
use Rattle.std.specs.Char.{to_ascii_uppercase}
use Rattle.std.specs.Int.{bit_at}
use Rattle.std.specs.Int.Bits.{and_zero_l, and_zero_r}
use Rattle.std.specs.Simd.Lanes.{zip2, mask_l, top, chunk}
use Rattle.std.proofs.lemmas.Bool.{agree_below, agree_below_at, and_parts, eqb-true, false≢true, cases_lt}
use Rattle.std.proofs.lemmas.Bool.Decides.{nat_tests}
use Rattle.std.proofs.lemmas.List.{drop_more, get_or_past}
use Rattle.uriparse_text.specs.declared.internal.token.Token.TheVariants.{Byte, Escape}
use Rattle.uriparse_text.specs.declared.internal.token.Case.{Case}
use Rattle.uriparse_text.specs.declared.internal.token.Case.TheVariants.{Kept}
use Rattle.uriparse_text.specs.declared.internal.canonical_escape.TheConstants.{FIRST_LOW, SHRUNK_FIRST_HIGH, SECOND_LOW, SHRUNK_SECOND_HIGH}
use Rattle.uriparse_text.specs.Bytes.{percent, is_hex, is_unreserved}
use Rattle.uriparse_text.specs.Tokens.{is_escape, spell}
use Rattle.uriparse_text.specs.Canonical.{canonical_in, canonical_token, escaped_byte}
use Rattle.uriparse_text.specs.Escapes.{begins_shrunk, shrunk_count}
use Rattle.uriparse_text.proofs.lemmas.scans.PairMarkLemmas.{both_at, both_past, three}
use Rattle.uriparse_text.proofs.lemmas.scans.BitLemmas.{ones_none, ones_next, ones_whole}
use Rattle.uriparse_text.proofs.lemmas.tokens.TokenLemmas.{tokens-byte, tokens-escape, escape_at}
use Rattle.uriparse_text.proofs.lemmas.canonical.CanonicalLemmas.{canonical_in-nil, canonical_in-cons}
use Rattle.uriparse_text.proofs.lemmas.canonical.SpellingLengthLemmas.{length_in_case}

-- ---- how much shorter

hex_begins_none : (b : ℕ) (t : List ℕ) → is_hex b ≡ true → begins_shrunk (b ∷ t) ≡ false
hex_begins_none b t h = by_value (begins_shrunk (b ∷ t)) refl
  where
    by_value : (v : Bool) → begins_shrunk (b ∷ t) ≡ v → v ≡ false
    by_value false e = refl
    by_value true e =
        let both = and_parts (is_escape b t) (is_unreserved (escaped_byte (get_or t 0 0) (get_or t 1 0))) e in
        let sign : b ≡ percent = (escape_at b t both.0).sign in
        absurd (false≢true (sym (ap is_hex sign) ∙ h))

escape_length : (high low : ℕ) → length (spell (canonical_token Kept (Escape high low))) + 2 * cond (is_unreserved (escaped_byte high low)) 1 0 ≡ 3
escape_length high low = by_value (is_unreserved (escaped_byte high low))
  where
    by_value : (v : Bool) → length (spell (cond v (Byte (escaped_byte high low)) (Escape (to_ascii_uppercase high) (to_ascii_uppercase low)))) + 2 * cond v 1 0 ≡ 3
    by_value true = refl
    by_value false = refl

shrunk_cons : (b : ℕ) (t : List ℕ) → shrunk_count (b ∷ t) ≡ cond (begins_shrunk (b ∷ t)) 1 0 + shrunk_count t
unfolding shrunk_count
shrunk_cons b t = refl

shrunk_nil : shrunk_count [] ≡ 0
unfolding shrunk_count
shrunk_nil = refl

-- each is two bytes shorter
shorter : (t : List ℕ) → length (canonical_in Kept t) + 2 * shrunk_count t ≡ length t
shorter [] = omega (arith, ap length (canonical_in-nil Kept), shrunk_nil)
shorter (b ∷ []) =
    let spelled : length (canonical_in Kept (b ∷ [])) ≡ suc (length (canonical_in Kept [])) =
    ap length (canonical_in-cons Kept (b ∷ []) [] (Byte b) (tokens-byte b [] refl)) in
    omega (arith, spelled, ap length (canonical_in-nil Kept), shrunk_nil, shrunk_cons b [])
shorter (b ∷ c ∷ []) =
    let spelled : length (canonical_in Kept (b ∷ c ∷ [])) ≡ suc (length (canonical_in Kept (c ∷ []))) =
    ap length (canonical_in-cons Kept (b ∷ c ∷ []) (c ∷ []) (Byte b) (tokens-byte b (c ∷ []) refl)) in
    omega (arith, spelled, shorter (c ∷ []), shrunk_cons b (c ∷ []))
shorter (b ∷ high ∷ low ∷ rest) =
    by_first (is_escape b (high ∷ low ∷ rest)) refl (shorter rest) (shorter (high ∷ low ∷ rest))
  where
    by_first : (v : Bool) → is_escape b (high ∷ low ∷ rest) ≡ v → length (canonical_in Kept rest) + 2 * shrunk_count rest ≡ length rest
        → length (canonical_in Kept (high ∷ low ∷ rest)) + 2 * shrunk_count (high ∷ low ∷ rest) ≡ suc (suc (length rest))
        → length (canonical_in Kept (b ∷ high ∷ low ∷ rest)) + 2 * shrunk_count (b ∷ high ∷ low ∷ rest) ≡ suc (suc (suc (length rest)))
    by_first true e f g =
        let digits = and_parts (is_hex high) (is_hex low) (escape_at b (high ∷ low ∷ rest) e).digits in
        let spelled : length (canonical_in Kept (b ∷ high ∷ low ∷ rest)) ≡ length (spell (canonical_token Kept (Escape high low))) + length (canonical_in Kept rest) =
        ap length (canonical_in-cons Kept (b ∷ high ∷ low ∷ rest) rest (Escape high low) (tokens-escape b (high ∷ low ∷ rest) e))
        ∙ length-append (spell (canonical_token Kept (Escape high low))) (canonical_in Kept rest) in
        let first : ◌≡◌ {A = ℕ} (cond (begins_shrunk (b ∷ high ∷ low ∷ rest)) 1 0) (cond (is_unreserved (escaped_byte high low)) 1 0) =
        ap (λ v. cond (v && is_unreserved (escaped_byte high low)) 1 0) e in
        let second : ◌≡◌ {A = ℕ} (cond (begins_shrunk (high ∷ low ∷ rest)) 1 0) 0 = ap (λ v. cond v 1 0) (hex_begins_none high (low ∷ rest) digits.0) in
        let third : ◌≡◌ {A = ℕ} (cond (begins_shrunk (low ∷ rest)) 1 0) 0 = ap (λ v. cond v 1 0) (hex_begins_none low rest digits.1) in
        omega (
          arith,
          spelled,
          f,
          first,
          second,
          third,
          escape_length high low,
          shrunk_cons b (high ∷ low ∷ rest),
          shrunk_cons high (low ∷ rest),
          shrunk_cons low rest,
        )
    by_first false e f g =
        let spelled : length (canonical_in Kept (b ∷ high ∷ low ∷ rest)) ≡ suc (length (canonical_in Kept (high ∷ low ∷ rest))) =
        ap length (canonical_in-cons Kept (b ∷ high ∷ low ∷ rest) (high ∷ low ∷ rest) (Byte b) (tokens-byte b (high ∷ low ∷ rest) e)) in
        let first : ◌≡◌ {A = ℕ} (cond (begins_shrunk (b ∷ high ∷ low ∷ rest)) 1 0) 0 = ap (λ v. cond (v && is_unreserved (escaped_byte high low)) 1 0) e in
        omega (arith, spelled, g, first, shrunk_cons b (high ∷ low ∷ rest))

pub length_from_shrunk : (case : Case) (t : List ℕ) (n : ℕ) → n ≡ shrunk_count t → (2 * n ≤ length t) × (length t - 2 * n ≡ length (canonical_in case t))
length_from_shrunk case t n e =
    let less = shorter t in
    let same = length_in_case case t in
    (omega arith, omega arith)

pub shrunk_few : (t : List ℕ) → shrunk_count t ≤ length t
shrunk_few t = omega (arith, shorter t)

-- ---- the kinds of two digits

abbrev first_kinds : ℕ → ℕ
first_kinds b = bit_and (get_or FIRST_LOW (bit_and b 15) 0) (get_or SHRUNK_FIRST_HIGH (b / 16) 0)

abbrev second_kinds : ℕ → ℕ
second_kinds b = bit_and (get_or SECOND_LOW (bit_and b 15) 0) (get_or SHRUNK_SECOND_HIGH (b / 16) 0)

abbrev shares : ℕ → ℕ → Bool
shares high low = not (eqb (bit_and (first_kinds high) (second_kinds low)) 0)

abbrev is_shrunk : ℕ → ℕ → Bool
is_shrunk high low = is_hex high && (is_hex low && is_unreserved (escaped_byte high low))

-- they tell of each second digit, and a byte that is no digit has none
abbrev tell : ℕ → Bool
tell high = cond (is_hex high) (agree_below (shares high) (is_shrunk high) 256) (eqb (first_kinds high) 0)

first_past : (b : ℕ) → 256 ≤ b → first_kinds b ≡ 0
first_past b h = ap (bit_and (get_or FIRST_LOW (bit_and b 15) 0)) (get_or_past SHRUNK_FIRST_HIGH (b / 16) 0 (omega arith)) ∙ and_zero_r (get_or FIRST_LOW (bit_and b 15) 0)

second_past : (b : ℕ) → 256 ≤ b → second_kinds b ≡ 0
second_past b h = ap (bit_and (get_or SECOND_LOW (bit_and b 15) 0)) (get_or_past SHRUNK_SECOND_HIGH (b / 16) 0 (omega arith)) ∙ and_zero_r (get_or SECOND_LOW (bit_and b 15) 0)

no_digit : (b : ℕ) → 256 ≤ b → is_hex b ≡ false
no_digit b h = by_value (is_hex b) refl
  where
    by_value : (v : Bool) → is_hex b ≡ v → v ≡ false
    by_value false e = refl
    by_value true e = let small : b < 256 = grind (arith, nat_tests) in absurd (omega arith)

no_first : (high low : ℕ) → first_kinds high ≡ 0 → is_hex high ≡ false → shares high low ≡ is_shrunk high low
no_first high low none never =
    ap (λ n. not (eqb (bit_and n (second_kinds low)) 0)) none ∙ ap (λ n. not (eqb n 0)) (and_zero_l (second_kinds low))
    ∙ sym (ap (λ v. v && (is_hex low && is_unreserved (escaped_byte high low))) never)

no_second : (high low : ℕ) → second_kinds low ≡ 0 → is_hex low ≡ false → is_hex high ≡ true → shares high low ≡ is_shrunk high low
no_second high low none never digit =
    ap (λ n. not (eqb (bit_and (first_kinds high) n) 0)) none ∙ ap (λ n. not (eqb n 0)) (and_zero_r (first_kinds high))
    ∙ sym (ap (λ v. v && (is_hex low && is_unreserved (escaped_byte high low))) digit ∙ ap (λ v. v && is_unreserved (escaped_byte high low)) never)

shrunk_kind : (high low : ℕ) → shares high low ≡ is_shrunk high low
unfolding is_unreserved
shrunk_kind high low = elim (cases_lt high 256) [
  | inl small ↦ by_digit (is_hex high) refl (agree_below_at tell (λ _. true) 256 high refl small)
  | inr past ↦ no_first high low (first_past high past) (no_digit high past)
]
  where
    by_digit : (v : Bool) → is_hex high ≡ v → cond v (agree_below (shares high) (is_shrunk high) 256) (eqb (first_kinds high) 0) ≡ true
        → shares high low ≡ is_shrunk high low
    by_digit true e all = elim (cases_lt low 256) [
      | inl small ↦ agree_below_at (shares high) (is_shrunk high) 256 low all small
      | inr past ↦ no_second high low (second_past low past) (no_digit low past) e
    ]
    by_digit false e none = no_first high low (eqb-true (first_kinds high) 0 none) e

and_nested : (u v w x : Bool) → (u && (v && (w && x))) ≡ (((u && v) && w) && x)
and_nested true v w x = by_second v
  where
    by_second : (v : Bool) → (v && (w && x)) ≡ ((v && w) && x)
    by_second true = refl
    by_second false = refl
and_nested false v w x = refl

module _ (text : List ℕ) (at : ℕ) (room : at + 18 ≤ length text) (firsts seconds : List ℕ) (f : firsts ≡ map first_kinds (chunk (at + 1) 16 text))
    (s : seconds ≡ map second_kinds (chunk (at + 2) 16 text)) (signs kinds : ℕ) (e : signs ≡ mask_l (map (λ b. b == percent) (chunk at 16 text)))
    (g : kinds ≡ mask_l (map (top 7) (zip2 (λ a b. cond (not (eqb a b)) 255 0) (zip2 bit_and firsts seconds) (replicate 16 0))) % 2 ^ 64) where
  pub mark_shrunk : (k : ℕ) → k < 16 → bit_at (bit_and signs kinds) k ≡ cond (begins_shrunk (drop (at + k) text)) 1 0
  mark_shrunk k h =
      let b = get_or text (at + k) 0 in
      let high = get_or text (at + 1 + k) 0 in
      let low = get_or text (at + 2 + k) 0 in
      let second : at + k + 1 ≡ at + 1 + k = omega arith in
      let third : at + k + 2 ≡ at + 2 + k = omega arith in
      both_at first_kinds second_kinds text at room firsts seconds f s signs kinds e g k h
      ∙ ap (λ v. cond (b == percent && v) 1 0) (shrunk_kind high low)
      ∙ ap (λ v. cond v 1 0) (and_nested (b == percent) (is_hex high) (is_hex low) (is_unreserved (escaped_byte high low)))
      ∙ ap (λ u. cond (begins_shrunk u) 1 0)
      (ap (λ i. b ∷ high ∷ get_or text i 0 ∷ drop (at + k + 3) text) (sym third) ∙ ap (λ i. b ∷ get_or text i 0 ∷ get_or text (at + k + 2) 0 ∷ drop (at + k + 3) text) (sym second)
      ∙ sym (three (at + k) text (omega arith)))

  pub mark_past : (k : ℕ) → 16 ≤ k → bit_at (bit_and signs kinds) k ≡ 0
  mark_past = both_past first_kinds second_kinds text at room firsts seconds f s signs kinds e g

-- without a `%` there is no mark
pub none_shrunk : (text : List ℕ) (at signs : ℕ) → at + 18 ≤ length text → signs ≡ mask_l (map (λ b. b == percent) (chunk at 16 text)) → signs ≡ 0
    → (k : ℕ) → k < 16 → bit_at 0 k ≡ cond (begins_shrunk (drop (at + k) text)) 1 0
none_shrunk text at signs room e none k h =
    let firsts = map first_kinds (chunk (at + 1) 16 text) in
    let seconds = map second_kinds (chunk (at + 2) 16 text) in
    let kinds = mask_l (map (top 7) (zip2 (λ a b. cond (not (eqb a b)) 255 0) (zip2 bit_and firsts seconds) (replicate 16 0))) % 2 ^ 64 in
    sym (ap (λ m. bit_at m k) (ap (λ m. bit_and m kinds) none ∙ and_zero_l kinds))
    ∙ mark_shrunk text at room firsts seconds refl refl signs kinds e refl k h

-- ---- counted by marks

short_none : (t : List ℕ) → length t < 3 → shrunk_count t ≡ 0
short_none [] h = shrunk_nil
short_none (b ∷ []) h = omega (arith, shrunk_nil, shrunk_cons b [])
short_none (b ∷ c ∷ []) h = omega (arith, shrunk_nil, shrunk_cons b (c ∷ []), shrunk_cons c [])
short_none (b ∷ c ∷ d ∷ t) h = absurd (omega arith)

one_offset : (text : List ℕ) (i : ℕ) → i < length text → shrunk_count (drop i text) ≡ cond (begins_shrunk (drop i text)) 1 0 + shrunk_count (drop (i + 1) text)
one_offset text i h =
    let e = drop_more text i 0 h in
    ap shrunk_count e ∙ shrunk_cons (get_or text i 0) (drop (i + 1) text) ∙ ap (λ u. cond (begins_shrunk u) 1 0 + shrunk_count (drop (i + 1) text)) (sym e)

module _ (text : List ℕ) (at marks n : ℕ) (room : at + n ≤ length text)
    (are : (k : ℕ) → k < n → bit_at marks k ≡ cond (begins_shrunk (drop (at + k) text)) 1 0) (past : (k : ℕ) → n ≤ k → bit_at marks k ≡ 0) where
  along : (j : ℕ) → j ≤ n → shrunk_count (drop at text) ≡ count_ones (marks % 2 ^ j) + shrunk_count (drop (at + j) text)
  along zero h =
      let offset : at ≡ at + 0 = omega arith in
      let same : shrunk_count (drop at text) ≡ shrunk_count (drop (at + 0) text) = ap (λ i. shrunk_count (drop i text)) offset in
      omega (arith, same, ones_none marks)
  along (suc j) h =
      let next : j + 1 ≡ suc j = omega arith in
      let offset : at + j + 1 ≡ at + suc j = omega arith in
      let before = along j (omega arith) in
      let one : shrunk_count (drop (at + j) text) ≡ cond (begins_shrunk (drop (at + j) text)) 1 0 + shrunk_count (drop (at + suc j) text) =
      one_offset text (at + j) (omega arith) ∙ ap (λ i. cond (begins_shrunk (drop (at + j) text)) 1 0 + shrunk_count (drop i text)) offset in
      let bits : count_ones (marks % 2 ^ suc j) ≡ count_ones (marks % 2 ^ j) + bit_at marks j = sym (ap (λ e. count_ones (marks % 2 ^ e)) next) ∙ ones_next marks j in
      omega (arith, before, one, bits, are j (omega arith))

  -- the places that have marks are counted
  pub counted : shrunk_count (drop at text) ≡ count_ones marks + shrunk_count (drop (at + n) text)
  counted = along n (omega arith) ∙ ap (λ m. m + shrunk_count (drop (at + n) text)) (ones_whole marks n past)

-- the places behind those that are counted already
pub counted_last : (text : List ℕ) (count at m last : ℕ) → 18 ≤ length text → at ≤ length text → length text ≤ at + 18
    → count + shrunk_count (drop at text) ≡ shrunk_count text
    → ((k : ℕ) → k < 16 → bit_at m k ≡ cond (begins_shrunk (drop (length text - 18 + k) text)) 1 0) → ((k : ℕ) → 16 ≤ k → bit_at m k ≡ 0)
    → ((k : ℕ) → bit_at last k ≡ bit_at m (at - (length text - 18) + k)) → count + count_ones last ≡ shrunk_count text
counted_last text count at m last long within end before are past shifted =
    elim (cases_lt at (length text - 2)) [
      | inl some ↦
          let rest = counted text at last (length text - 2 - at) (omega arith) marks_are marks_past in
          let none = short_none (drop (at + (length text - 2 - at)) text) (omega (arith, length-drop (at + (length text - 2 - at)) text)) in
          omega (arith, before, rest, none)
      | inr none ↦
          let nothing = counted text at last 0 (omega arith) (λ k h. absurd (omega arith)) (λ k h. shifted k ∙ past (at - (length text - 18) + k) (omega arith)) in
          let rest = short_none (drop (at + 0) text) (omega (arith, length-drop (at + 0) text)) in
          omega (arith, before, nothing, rest)
    ]
  where
    marks_are : (k : ℕ) → k < length text - 2 - at → bit_at last k ≡ cond (begins_shrunk (drop (at + k) text)) 1 0
    marks_are k h =
        let offset : length text - 18 + (at - (length text - 18) + k) ≡ at + k = omega arith in
        shifted k ∙ are (at - (length text - 18) + k) (omega arith) ∙ ap (λ i. cond (begins_shrunk (drop i text)) 1 0) offset

    marks_past : (k : ℕ) → length text - 2 - at ≤ k → bit_at last k ≡ 0
    marks_past k h = shifted k ∙ past (at - (length text - 18) + k) (omega arith)
