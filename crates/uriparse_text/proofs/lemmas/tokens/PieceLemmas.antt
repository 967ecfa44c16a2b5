-- Texts that are rewritten piece by piece.
use Rattle.std.proofs.Common.{◌≡◌, ℕ, suc, ◌+◌, ◌*◌, ◌<◌, ◌≤◌, Bool, true, false, cond, List, [], ◌∷◌, ◌++◌, map, length, length-append, get_or, take, drop, refl, sym, ap, ◌∙◌, arith}
use Rattle.std.specs.Prelude.{◌==◌, ◌||◌, ◌&&◌, ◌/◌, ◌%◌, not, Option, Some, None, IfSome}
use Rattle.std.proofs.lemmas.Bool.{and_from, and_parts, false≢true, not-false, not-true, or_parts}
use Rattle.std.specs.List.{flat_map}
use Rattle.std.specs.Int.{is_in_range}
use Rattle.std.specs.Int.Bits.{bit_or}
use Rattle.std.specs.Simd.Lanes.{mask_l}
use Rattle.std.proofs.lemmas.List.{length-map}
use Rattle.std.proofs.lemmas.List.Folds.{list_any_more}
use Rattle.std.proofs.lemmas.Bool.Decides.{nat_tests}
use Rattle.uriparse_text.specs.declared.internal.token.Token.{Token}
use Rattle.uriparse_text.specs.declared.internal.token.Token.TheVariants.{Byte, Escape}
use Rattle.uriparse_text.specs.Bytes.{is_among, percent, plus_sign, space}
use Rattle.uriparse_text.specs.Coding.{are_bytes, decoded, encoded, encoded_without, escape_of, escaped_in, form_decoded, form_value_of, may_stand, token_for, value_of}
use Rattle.uriparse_text.specs.declared.internal.class.Class.{Class}
use Rattle.uriparse_text.specs.Alike.{upper_digit_of}
use Rattle.uriparse_text.specs.Classes.{is_plain}
use Rattle.uriparse_text.specs.Tokens.{is_escape, spell, tokens}
use Rattle.uriparse_text.specs.Cuts.{up_to, from_first}
use Rattle.uriparse_text.specs.Pieces.{Keeps}
use Rattle.uriparse_text.proofs.lemmas.canonical.RunLemmas.{no_escape}
use Rattle.uriparse_text.proofs.lemmas.tokens.CodingLemmas.{decoded-cons, decoded-nil, decoded-byte, encoded-nil, form_decoded-nil, range_byte, small_byte}
use Rattle.uriparse_text.proofs.lemmas.canonical.CanonicalPrefixLemmas.{masks_of_either}
use Rattle.uriparse_text.proofs.lemmas.tokens.EscapingLemmas.{becomes, escape_digits, or_true, stay_digits, stays, stays_allowed, stays_escape, stays_plain}
use Rattle.uriparse_text.proofs.lemmas.tokens.TokenLemmas.{escape_at, spell-tokens, tokens-byte, tokens-escape}

-- a text of two bytes or more begins with two
pub two_first : (t : List ℕ) → 2 ≤ length t → t ≡ get_or t 0 0 ∷ get_or t 1 0 ∷ drop 2 t
two_first [] h = absurd (omega (arith, h))
two_first (b ∷ []) h = absurd (omega (arith, h))
two_first (b ∷ c ∷ t) h = refl

-- the first run of a text stays
pub rewritten-run : (p : ℕ → Bool) (f : List ℕ → List ℕ) → Keeps p f → (t : List ℕ) → f t ≡ up_to p t ++ f (from_first p t)
rewritten-run p f keeps [] = refl
rewritten-run p f keeps (b ∷ t) = by_first (p b) refl (rewritten-run p f keeps t)
  where
    by_first : (v : Bool) → p b ≡ v → f t ≡ up_to p t ++ f (from_first p t)
        → f (b ∷ t) ≡ cond v [] (b ∷ up_to p t) ++ f (cond v (b ∷ t) (from_first p t))
    by_first true e h = refl
    by_first false e h = keeps.stays b t e ∙ ap (λ u. b ∷ u) h

-- ---- decoding

pub decoding_keeps : Keeps (λ b. b == percent) decoded
decoding_keeps = record { nothing = decoded-nil [] refl; stays = decoded-byte }

-- a byte that these three stand for, if they are an escape, is decoded from them
pub decoded_escape : (b high low : ℕ) (r : Option ℕ)
    → IfSome r (λ value. (is_escape b (high ∷ low ∷ []) ≡ true) × (value ≡ value_of (Escape high low)))
    → IfSome r (λ value. (after : List ℕ) → decoded (b ∷ high ∷ low ∷ after) ≡ value ∷ decoded after)
decoded_escape b high low None h = h
decoded_escape b high low (Some value) h =
    λ after. decoded-cons (b ∷ high ∷ low ∷ after) after (Escape high low) (tokens-escape b (high ∷ low ∷ after) h.0) ∙ ap (λ v. v ∷ decoded after) (sym h.1)

pub form_decoded_escape : (b high low : ℕ) (r : Option ℕ)
    → IfSome r (λ value. (is_escape b (high ∷ low ∷ []) ≡ true) × (value ≡ value_of (Escape high low)))
    → IfSome r (λ value. (after : List ℕ) → form_decoded (b ∷ high ∷ low ∷ after) ≡ value ∷ form_decoded after)
form_decoded_escape b high low None h = h
form_decoded_escape b high low (Some value) h =
    λ after. ap (map form_value_of) (tokens-escape b (high ∷ low ∷ after) h.0) ∙ ap (λ v. v ∷ form_decoded after) (sym h.1)

no_more_tokens : (ts : List Token) → length ts ≤ length (flat_map spell ts)
no_more_tokens [] = omega arith
no_more_tokens (Byte b ∷ ts) = omega (arith, no_more_tokens ts)
no_more_tokens (Escape high low ∷ ts) = omega (arith, no_more_tokens ts)

-- a text represents no more bytes than it has
pub decoded_no_longer : (t : List ℕ) → length (decoded t) ≤ length t
unfolding decoded
decoded_no_longer t = omega (arith, length-map (tokens t) value_of, no_more_tokens (tokens t), ap length (spell-tokens t))

form_decoded-byte : (b : ℕ) (t : List ℕ) → (b == percent || b == plus_sign) ≡ false → form_decoded (b ∷ t) ≡ b ∷ form_decoded t
form_decoded-byte b t h =
    let sign : (b == percent) ≡ false = grind (arith, nat_tests) in
    let plus : (b == plus_sign) ≡ false = grind (arith, nat_tests) in
    ap (map form_value_of) (tokens-byte b t (no_escape b t sign)) ∙ ap (λ v. cond v space b ∷ form_decoded t) plus

pub form_decoding_keeps : Keeps (λ b. b == percent || b == plus_sign) form_decoded
form_decoding_keeps = record { nothing = form_decoded-nil [] refl; stays = form_decoded-byte }

-- ---- encoding

module _ (class : Class) where
  abbrev outside : ℕ → Bool
  outside b = not (is_plain class b)

  encoded-byte : (b : ℕ) (t : List ℕ) → outside b ≡ false → encoded class (b ∷ t) ≡ b ∷ encoded class t
  unfolding encoded
  encoded-byte b t h =
      ap (λ v. spell (cond v (Byte b) (Escape (upper_digit_of (b / 16)) (upper_digit_of (b % 16)))) ++ flat_map spell (map (token_for class) t))
      (not-false (is_plain class b) h)

  encoded-escape : (b : ℕ) (t : List ℕ) → b < 256 → outside b ≡ true → encoded class (b ∷ t) ≡ spell (escape_of b) ++ encoded class t
  unfolding encoded
  encoded-escape b t small h =
      let half : (b / 16) % 16 ≡ b / 16 = omega arith in
      ap (λ v. spell (cond v (Byte b) (Escape (upper_digit_of (b / 16)) (upper_digit_of (b % 16)))) ++ flat_map spell (map (token_for class) t))
      (not-true (is_plain class b) h)
      ∙ ap (λ n. spell (Escape (upper_digit_of n) (upper_digit_of (b % 16))) ++ flat_map spell (map (token_for class) t)) (sym half)

  short_token : (t : Token) → length (spell t) ≤ 3
  short_token (Byte b) = omega arith
  short_token (Escape high low) = omega arith

  -- a text is no longer than escapes for all bytes
  pub encoded_length : (bytes : List ℕ) → length (encoded class bytes) ≤ 3 * length bytes
  unfolding encoded
  encoded_length [] = omega arith
  encoded_length (b ∷ bytes) =
      let short = short_token (token_for class b) in
      let rest : length (flat_map spell (map (token_for class) bytes)) ≤ 3 * length bytes = encoded_length bytes in
      let sum = length-append (spell (token_for class b)) (flat_map spell (map (token_for class) bytes)) in
      omega arith

  module _ (without : List ℕ) where
    abbrev outside_or : ℕ → Bool
    outside_or b = not (is_plain class b) || is_among without b

    without-byte : (b : ℕ) (t : List ℕ) → outside_or b ≡ false → encoded_without class without (b ∷ t) ≡ b ∷ encoded_without class without t
    without-byte b t h =
        let parts = or_parts (not (is_plain class b)) (is_among without b) h in
        let stands : (is_plain class b && not (is_among without b)) ≡ true = and_from _ _ (not-false (is_plain class b) parts.0) (ap not parts.1) in
        ap (λ v. spell (cond v (Byte b) (escape_of b)) ++ encoded_without class without t) stands

    pub encoding_without_keeps : Keeps outside_or (encoded_without class without)
    encoding_without_keeps = record { nothing = refl; stays = without-byte }

    pub without-escape : (b : ℕ) (t : List ℕ) → outside_or b ≡ true → encoded_without class without (b ∷ t) ≡ spell (escape_of b) ++ encoded_without class without t
    without-escape b t h =
        ap (λ v. spell (cond v (Byte b) (escape_of b)) ++ encoded_without class without t) (by_tests (is_plain class b) (is_among without b) h)
      where
        by_tests : (v w : Bool) → (not v || w) ≡ true → (v && not w) ≡ false
        by_tests true true h = refl
        by_tests true false h = absurd (false≢true h)
        by_tests false w h = refl

    same_test : (b x : ℕ) → (x == b) ≡ (b == x)
    same_test b x = grind (arith, nat_tests)

    -- the marks of one more of those bytes
    pub without_marks : (i m one : ℕ) (lanes : List ℕ) → i < length without
        → m ≡ mask_l (map (λ b. not (is_plain class b) || is_among (take i without) b) lanes)
        → one ≡ mask_l (map (λ b. b == get_or without i 0) lanes)
        → bit_or m one ≡ mask_l (map (λ b. not (is_plain class b) || is_among (take (i + 1) without) b) lanes)
    without_marks i m one lanes l before here =
        ap (λ n. bit_or n one) before
        ∙ ap (bit_or (mask_l (map (λ b. not (is_plain class b) || is_among (take i without) b) lanes))) here
        ∙ masks_of_either (λ b. not (is_plain class b) || is_among (take i without) b) (λ b. b == get_or without i 0)
        (λ b. not (is_plain class b) || is_among (take (i + 1) without) b) more lanes
      where
        or_assoc : (u v x : Bool) → ((u || v) || x) ≡ (u || (v || x))
        or_assoc true v x = refl
        or_assoc false v x = refl

        more : (b : ℕ) → ((not (is_plain class b) || is_among (take i without) b) || b == get_or without i 0)
            ≡ (not (is_plain class b) || is_among (take (i + 1) without) b)
        more b =
            or_assoc (not (is_plain class b)) (is_among (take i without) b) (b == get_or without i 0)
            ∙ ap (λ v. not (is_plain class b) || v) (ap (λ v. is_among (take i without) b || v) (sym (same_test b (get_or without i 0)))
            ∙ sym (list_any_more (λ x. x == b) without i 0 l))

  -- with no byte excepted
  pub encoded_without_none : (bytes : List ℕ) → are_bytes bytes ≡ true → encoded_without class [] bytes ≡ encoded class bytes
  encoded_without_none [] h = sym (encoded-nil class)
  encoded_without_none (b ∷ t) h =
      let parts = and_parts (is_in_range 0 255 b) (are_bytes t) h in
      by_plain (is_plain class b) refl (encoded_without_none t parts.1)
    where
      by_plain : (v : Bool) → is_plain class b ≡ v → encoded_without class [] t ≡ encoded class t
          → encoded_without class [] (b ∷ t) ≡ encoded class (b ∷ t)
      by_plain true e rest =
          without-byte [] b t (rw e refl) ∙ ap (λ u. b ∷ u) rest ∙ sym (encoded-byte b t (rw e refl))
      by_plain false e rest =
          without-escape [] b t (rw e refl) ∙ ap (λ u. spell (escape_of b) ++ u) rest
          ∙ sym (encoded-escape b t (small_byte b (and_parts (is_in_range 0 255 b) (are_bytes t) h).0) (rw e refl))

-- the items of a slice are bytes
pub each_byte : (bytes : List ℕ) → ((k : ℕ) → k < length bytes → get_or bytes k 0 < 256) → are_bytes bytes ≡ true
each_byte [] h = refl
each_byte (b ∷ bytes) h = and_from _ _ (range_byte b (h 0 (omega arith))) (each_byte bytes (λ k l. h (suc k) (omega arith)))

-- ---- escaping

module _ (class : Class) (more : List ℕ) where
  pub escaping_keeps : Keeps (λ b. not (is_plain class b)) (escaped_in class more)
  escaping_keeps = record { nothing = refl; stays = λ b t h. stays_plain class more b t (not-false (is_plain class b) h) }

  pub escaped-kept : (b : ℕ) (t : List ℕ) → is_among more b ≡ true → escaped_in class more (b ∷ t) ≡ b ∷ escaped_in class more t
  escaped-kept b t h = stays_allowed class more b t (ap (λ v. is_plain class b || v) h ∙ or_true (is_plain class b))

  pub escaped-escape : (b : ℕ) (t : List ℕ) → is_escape b t ≡ true
      → escaped_in class more (b ∷ t) ≡ percent ∷ get_or t 0 0 ∷ get_or t 1 0 ∷ escaped_in class more (drop 2 t)
  escaped-escape b [] is = absurd (false≢true is)
  escaped-escape b (c ∷ []) is = absurd (false≢true is)
  escaped-escape b (high ∷ low ∷ t) is =
      let d = escape_digits b high low t is in
      stays_escape class more b (high ∷ low ∷ t) is ∙ ap (λ u. b ∷ u) (stay_digits class more high low t d.0 d.1)
      ∙ ap (λ x. x ∷ high ∷ low ∷ escaped_in class more t) (escape_at b (high ∷ low ∷ t) is).sign

  pub escaped-other : (b : ℕ) (t : List ℕ) → is_plain class b ≡ false → is_among more b ≡ false → is_escape b t ≡ false
      → escaped_in class more (b ∷ t) ≡ spell (escape_of b) ++ escaped_in class more t
  escaped-other b t out none never = becomes class more b t (rw (out, none, never) refl)

  -- a text is no longer than escapes for all bytes
  pub escaped_length : (t : List ℕ) → length (escaped_in class more t) ≤ 3 * length t
  escaped_length [] = omega arith
  escaped_length (b ∷ t) = by_stays (may_stand class more b || is_escape b t) refl (escaped_length t)
    where
      by_stays : (v : Bool) → (may_stand class more b || is_escape b t) ≡ v → length (escaped_in class more t) ≤ 3 * length t
          → length (escaped_in class more (b ∷ t)) ≤ 3 * length (b ∷ t)
      by_stays true e h = omega (arith, ap length (stays class more b t e))
      by_stays false e h = omega (arith, ap length (becomes class more b t e))
