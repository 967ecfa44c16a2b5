-- Texts without an escape that isn't canonical.
use Rattle.std.proofs.Common.{◌≡◌, ◌↔◌, ℕ, suc, ◌+◌, ◌-◌, ◌%◌, ◌^◌, ◌<◌, ◌≤◌, Bool, true, false, cond, eqb, not, ◌&&◌, List, [], ◌∷◌, map, length, get_or, drop, bit_and, replicate, refl, sym, ap, ◌∙◌, arith, inl, inr, length-drop}
use Rattle.std.specs.Prelude.{◌==◌}
use Rattle.std.specs.Char.{to_ascii_uppercase}
use Rattle.std.specs.Int.{bit_at}
use Rattle.std.specs.Simd.Lanes.{zip2, mask_l, top, chunk}
use Rattle.std.proofs.lemmas.Bool.{and_from, and_parts, eq-eqb, eqb-true, not-true, false≢true, cases_lt}
use Rattle.std.proofs.lemmas.List.{get_or-drop}
use Rattle.std.proofs.lemmas.Bool.Decides.{nat_tests}
use Rattle.std.proofs.lemmas.Nat.Bits.{bit_at-zero}
use Rattle.uriparse_text.specs.declared.internal.token.Token.TheVariants.{Byte, Escape}
use Rattle.uriparse_text.specs.declared.internal.token.Case.{Case}
use Rattle.uriparse_text.specs.declared.internal.token.Case.TheVariants.{Kept}
use Rattle.uriparse_text.specs.Bytes.{percent, is_hex}
use Rattle.uriparse_text.specs.Tokens.{is_escape}
use Rattle.uriparse_text.specs.Canonical.{canonical_in, canonical_token}
use Rattle.uriparse_text.specs.Escapes.{is_canonical_escape, begins_changed, NoneChanged}
use Rattle.uriparse_text.proofs.lemmas.scans.PairLemmas.{first_kinds, second_kinds, pair_kind}
use Rattle.uriparse_text.proofs.lemmas.scans.PairMarkLemmas.{both_at}
use Rattle.uriparse_text.proofs.lemmas.scans.MarkLemmas.{is_unset}
use Rattle.uriparse_text.proofs.lemmas.tokens.TokenLemmas.{tokens-byte, tokens-escape, escape_at}
use Rattle.uriparse_text.proofs.lemmas.canonical.CanonicalLemmas.{by_escaped, canonical_in-nil, canonical_in-cons}

-- an escape is its own canonical form exactly if the test says so
pub canonical_escape : (case : Case) (high low : ℕ) (r : Bool) → r ≡ is_canonical_escape high low
    → (r ≡ true) ↔ (canonical_token case (Escape high low) ≡ Escape high low)
canonical_escape case high low r e = (λ h. forward (sym e ∙ h), λ h. e ∙ backward h)
  where
    forward : is_canonical_escape high low ≡ true → canonical_token case (Escape high low) ≡ Escape high low
    forward h =
        let first = and_parts _ _ h in
        let second = and_parts _ _ first.1 in
        by_escaped case high low (λ t. t ≡ Escape high low)
        (λ e. absurd (false≢true (sym (ap not e) ∙ second.1)))
        (λ e. rw (eqb-true (to_ascii_uppercase high) high first.0, eqb-true (to_ascii_uppercase low) low second.0) refl)

    backward : canonical_token case (Escape high low) ≡ Escape high low → is_canonical_escape high low ≡ true
    backward =
        by_escaped case high low (λ t. t ≡ Escape high low → is_canonical_escape high low ≡ true)
        (λ e k. cc)
        (λ e k.
        let first : to_ascii_uppercase high ≡ high = cc in
        let second : to_ascii_uppercase low ≡ low = cc in
        and_from _ _ (eq-eqb (to_ascii_uppercase high) high first) (and_from _ _ (eq-eqb (to_ascii_uppercase low) low second) (ap not e)))

escape_kept : (v w : Bool) → v ≡ true → (v && not w) ≡ false → w ≡ true
escape_kept true true h k = refl
escape_kept true false h k = absurd (false≢true (sym k))
escape_kept false w h k = absurd (false≢true h)

-- a text in which no escape changes stays as it is
pub unchanged : (t : List ℕ) → ((k : ℕ) → begins_changed (drop k t) ≡ false) → canonical_in Kept t ≡ t
unchanged [] h = canonical_in-nil Kept
unchanged (b ∷ []) h = canonical_in-cons Kept (b ∷ []) [] (Byte b) (tokens-byte b [] refl) ∙ ap (λ u. b ∷ u) (canonical_in-nil Kept)
unchanged (b ∷ c ∷ []) h =
    canonical_in-cons Kept (b ∷ c ∷ []) (c ∷ []) (Byte b) (tokens-byte b (c ∷ []) refl) ∙ ap (λ u. b ∷ u) (unchanged (c ∷ []) (λ k. h (suc k)))
unchanged (b ∷ high ∷ low ∷ rest) h =
    by_first (is_escape b (high ∷ low ∷ rest)) refl (unchanged rest (λ k. h (suc (suc (suc k))))) (unchanged (high ∷ low ∷ rest) (λ k. h (suc k)))
  where
    by_first : (v : Bool) → is_escape b (high ∷ low ∷ rest) ≡ v → canonical_in Kept rest ≡ rest → canonical_in Kept (high ∷ low ∷ rest) ≡ high ∷ low ∷ rest
        → canonical_in Kept (b ∷ high ∷ low ∷ rest) ≡ b ∷ high ∷ low ∷ rest
    by_first true e f g =
        let canonical = escape_kept _ (is_canonical_escape high low) e (h 0) in
        canonical_in-cons Kept (b ∷ high ∷ low ∷ rest) rest (Escape high low) (tokens-escape b (high ∷ low ∷ rest) e)
        ∙ rw ((canonical_escape Kept high low true (sym canonical)).0 refl, f) (ap (λ x. x ∷ high ∷ low ∷ rest) (sym (escape_at b (high ∷ low ∷ rest) e).sign))
    by_first false e f g =
        canonical_in-cons Kept (b ∷ high ∷ low ∷ rest) (high ∷ low ∷ rest) (Byte b) (tokens-byte b (high ∷ low ∷ rest) e) ∙ ap (λ u. b ∷ u) g

-- fewer than three bytes begin no escape
pub short_never : (t : List ℕ) → length t < 3 → begins_changed t ≡ false
short_never [] h = refl
short_never (b ∷ []) h = refl
short_never (b ∷ c ∷ []) h = refl
short_never (b ∷ c ∷ d ∷ t) h = absurd (omega arith)

-- sixteen places without a mark
pub none_marked : (text : List ℕ) (at marks : ℕ) → ((k : ℕ) → k < 16 → bit_at marks k ≡ 0 → begins_changed (drop (at + k) text) ≡ false) → marks ≡ 0
    → (k : ℕ) → k < 16 → begins_changed (drop (at + k) text) ≡ false
none_marked text at marks are none k h = are k h (ap (λ m. bit_at m k) none ∙ bit_at-zero k)

-- sixteen places more
pub none_more : (text : List ℕ) (seen at : ℕ) → NoneChanged text seen → at ≤ seen → ((k : ℕ) → k < 16 → begins_changed (drop (at + k) text) ≡ false)
    → NoneChanged text (at + 16)
none_more text seen at before from more k h = elim (cases_lt k seen) [
  | inl is ↦ before k is
  | inr past ↦ let offset : at + (k - at) ≡ k = omega arith in ap (λ i. begins_changed (drop i text)) (sym offset) ∙ more (k - at) (omega arith)
]

-- the last two bytes begin no escape
pub none_at_all : (text : List ℕ) (at : ℕ) → NoneChanged text at → length text ≤ at + 2 → canonical_in Kept text ≡ text
none_at_all text at before end = unchanged text (λ k. elim (cases_lt k at) [
  | inl is ↦ before k is
  | inr past ↦ short_never (drop k text) (omega (arith, length-drop k text))
])

-- ---- the marks of sixteen places

-- a text that begins with an escape that changes, by its first three bytes
pub record Changed (t : List ℕ) : Type 0 where
  pub sign : get_or t 0 0 ≡ percent
  pub high : is_hex (get_or t 1 0) ≡ true
  pub low : is_hex (get_or t 2 0) ≡ true
  pub changed : is_canonical_escape (get_or t 1 0) (get_or t 2 0) ≡ false

pub changed_bytes : (t : List ℕ) → begins_changed t ≡ true → Changed t
changed_bytes [] h = absurd (false≢true h)
changed_bytes (b ∷ []) h = absurd (false≢true h)
changed_bytes (b ∷ c ∷ []) h = absurd (false≢true h)
changed_bytes (b ∷ high ∷ low ∷ rest) h =
    let both = and_parts (is_escape b (high ∷ low ∷ rest)) (not (is_canonical_escape high low)) h in
    let escape = escape_at b (high ∷ low ∷ rest) both.0 in
    let digits = and_parts (is_hex high) (is_hex low) escape.digits in
    record { sign = escape.sign; high = digits.0; low = digits.1; changed = not-true _ both.1 }

pub changed_from : (t : List ℕ) → Changed t → begins_changed t ≡ true
changed_from [] is = absurd (false≢true is.high)
changed_from (b ∷ []) is = absurd (false≢true is.high)
changed_from (b ∷ c ∷ []) is = absurd (false≢true is.low)
changed_from (b ∷ high ∷ low ∷ rest) is =
    let sign : (b == percent) ≡ true = ap (λ x. x == percent) is.sign in
    and_from _ _ (and_from _ _ (and_from _ _ sign is.high) is.low) (ap not is.changed)

hex_small : (b : ℕ) → is_hex b ≡ true → b < 256
hex_small b h = grind (arith, nat_tests)

pub no_mark : (text : List ℕ) (at : ℕ) → at + 18 ≤ length text → (firsts seconds : List ℕ)
    → firsts ≡ map first_kinds (chunk (at + 1) 16 text) → seconds ≡ map second_kinds (chunk (at + 2) 16 text)
    → (signs kinds : ℕ) → signs ≡ mask_l (map (λ b. b == percent) (chunk at 16 text))
    → kinds ≡ mask_l (map (top 7) (zip2 (λ a b. cond (not (eqb a b)) 255 0) (zip2 bit_and firsts seconds) (replicate 16 0))) % 2 ^ 64
    → (k : ℕ) → k < 16 → bit_at (bit_and signs kinds) k ≡ 0 → begins_changed (drop (at + k) text) ≡ false
no_mark text at room firsts seconds f s signs kinds e g k h clear = by_value (begins_changed (drop (at + k) text)) refl
  where
    byte_at : (j : ℕ) → get_or (drop (at + k) text) j 0 ≡ get_or text (at + j + k) 0
    byte_at j = let offset : at + k + j ≡ at + j + k = omega arith in get_or-drop (at + k) text j 0 ∙ ap (λ i. get_or text i 0) offset

    by_value : (v : Bool) → begins_changed (drop (at + k) text) ≡ v → v ≡ false
    by_value false _ = refl
    by_value true is =
        let it = changed_bytes (drop (at + k) text) is in
        let first = get_or text (at + 1 + k) 0 in
        let second = get_or text (at + 2 + k) 0 in
        let sign : get_or text (at + k) 0 ≡ percent = sym (ap (λ i. get_or text (i + k) 0) (let none : at + 0 ≡ at = omega arith in none)) ∙ sym (byte_at 0) ∙ it.sign in
        let high : is_hex first ≡ true = ap is_hex (sym (byte_at 1)) ∙ it.high in
        let low : is_hex second ≡ true = ap is_hex (sym (byte_at 2)) ∙ it.low in
        let never : is_canonical_escape first second ≡ false =
        ap (λ b. is_canonical_escape b second) (sym (byte_at 1)) ∙ ap (λ b. is_canonical_escape (get_or (drop (at + k) text) 1 0) b) (sym (byte_at 2)) ∙ it.changed in
        let shared : eqb (bit_and (first_kinds first) (second_kinds second)) 0 ≡ false =
        pair_kind first second (hex_small first high) (hex_small second low) high low ∙ never in
        let none : (get_or text (at + k) 0 == percent && not (eqb (bit_and (first_kinds first) (second_kinds second)) 0)) ≡ false =
        is_unset _ (sym (both_at first_kinds second_kinds text at room firsts seconds f s signs kinds e g k h) ∙ clear) in
        absurd (false≢true (sym none ∙ and_from _ _ (ap (λ b. b == percent) sign) (ap not shared)))
