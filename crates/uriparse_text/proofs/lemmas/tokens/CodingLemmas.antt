-- Bytes that are written as a text, and the bytes that a text stands for.
use Rattle.std.proofs.Common.{◌≡◌, ℕ, ◌<◌, ◌≤◌, Bool, true, false, List, [], ◌∷◌, map, refl, sym, ap, ◌∙◌, arith, length, take, drop, Ok, zero, suc}
use Rattle.std.specs.Prelude.{◌==◌, ◌&&◌, ◌/◌, ◌%◌, bytes_eq}
use Rattle.std.specs.Cmp.Lexicographic.{slice_cmp}
use Rattle.std.specs.Cmp.{nat_cmp_is}
use Rattle.std.specs.Ordering.{nat_cmp, ordering_then}
use Rattle.std.specs.declared.cmp.Ordering.{Ordering}
use Rattle.std.specs.declared.cmp.Ordering.TheVariants.{Less, Equal, Greater}
use Rattle.std.specs.List.{flat_map, list_all}
use Rattle.std.specs.Int.{is_in_range}
use Rattle.std.specs.Char.{to_ascii_uppercase}
use Rattle.std.proofs.lemmas.Bool.{agree_below_at, and_from, and_parts, cond_both, cond-false, eq-eqb, eqb-true}
use Rattle.std.proofs.lemmas.Bool.Decides.{nat_tests}
use Rattle.std.proofs.Math.Seq.{take-append_seam}
use Rattle.uriparse_text.specs.declared.internal.token.Token.{Token}
use Rattle.uriparse_text.specs.declared.internal.token.Token.TheVariants.{Byte, Escape}
use Rattle.uriparse_text.specs.declared.internal.class.Class.{Class}
use Rattle.uriparse_text.specs.declared.internal.token.Case.{Case}
use Rattle.uriparse_text.specs.declared.internal.token.Case.TheVariants.{Kept}
use Rattle.uriparse_text.specs.Bytes.{is_hex, is_unreserved, percent}
use Rattle.uriparse_text.specs.Classes.{is_plain}
use Rattle.uriparse_text.specs.Tokens.{tokens, spell, is_token, has_digits, is_well_formed}
use Rattle.uriparse_text.specs.Faults.{allows, IsIn}
use Rattle.uriparse_text.specs.Canonical.{canonical_token, canonical_in, escaped_byte}
use Rattle.uriparse_text.specs.Alike.{AreCommon, upper_digit_of}
use Rattle.uriparse_text.specs.Coding.{value_of, decoded, token_for, encoded, are_bytes, form_value_of, form_decoded}
use Rattle.uriparse_text.specs.Starts.{Writes}
use Rattle.uriparse_text.proofs.lemmas.canonical.RunLemmas.{no_escape}
use Rattle.uriparse_text.proofs.lemmas.tokens.TokenLemmas.{tokens-byte, tokens-nil, tokens_of_concatenation, digits-tokens}
use Rattle.uriparse_text.proofs.lemmas.canonical.CanonicalLemmas.{by_escaped, upper_value, tokens-canonical_in}
use Rattle.uriparse_text.proofs.lemmas.classes.ClassLemmas.{is_token-allows, unreserved_plain, well_formed-in_class}

-- ---- one byte

high_is_hex : (b : ℕ) → b < 256 → is_hex (upper_digit_of (b / 16)) ≡ true
high_is_hex b small = agree_below_at (λ b. is_hex (upper_digit_of (b / 16))) (λ b. true) 256 b refl small

low_is_hex : (b : ℕ) → b < 256 → is_hex (upper_digit_of (b % 16)) ≡ true
low_is_hex b small = agree_below_at (λ b. is_hex (upper_digit_of (b % 16))) (λ b. true) 256 b refl small

escape_value : (b : ℕ) → b < 256 → escaped_byte (upper_digit_of (b / 16)) (upper_digit_of (b % 16)) ≡ b
escape_value b small =
    eqb-true _ _ (agree_below_at (λ b. escaped_byte (upper_digit_of (b / 16)) (upper_digit_of (b % 16)) == b) (λ b. true) 256 b refl small)

upper_high : (b : ℕ) → b < 256 → to_ascii_uppercase (upper_digit_of (b / 16)) ≡ upper_digit_of (b / 16)
upper_high b small =
    eqb-true _ _ (agree_below_at (λ b. to_ascii_uppercase (upper_digit_of (b / 16)) == upper_digit_of (b / 16)) (λ b. true) 256 b refl small)

upper_low : (b : ℕ) → b < 256 → to_ascii_uppercase (upper_digit_of (b % 16)) ≡ upper_digit_of (b % 16)
upper_low b small =
    eqb-true _ _ (agree_below_at (λ b. to_ascii_uppercase (upper_digit_of (b % 16)) == upper_digit_of (b % 16)) (λ b. true) 256 b refl small)

-- what holds of both outcomes holds of a byte's token
by_plain : (class : Class) (b : ℕ) (P : Token → Type 0) → (is_plain class b ≡ true → P (Byte b))
    → (is_plain class b ≡ false → P (Escape (upper_digit_of (b / 16)) (upper_digit_of (b % 16)))) → P (token_for class b)
by_plain class b P f g = cond_both (is_plain class b) (Byte b) (Escape (upper_digit_of (b / 16)) (upper_digit_of (b % 16))) P f g

allows-token_for : (class : Class) (b : ℕ) → b < 256 → allows class (token_for class b) ≡ true
allows-token_for class b small =
    by_plain class b (λ t. allows class t ≡ true) (λ h. h) (λ h. and_from _ _ (high_is_hex b small) (low_is_hex b small))

value_of-token_for : (class : Class) (b : ℕ) → b < 256 → value_of (token_for class b) ≡ b
value_of-token_for class b small = by_plain class b (λ t. value_of t ≡ b) (λ h. refl) (λ h. escape_value b small)

not_unreserved : (class : Class) (b : ℕ) → is_plain class b ≡ false → is_unreserved b ≡ false
not_unreserved class b h = by_test (is_unreserved b) refl
  where
    by_test : (v : Bool) → is_unreserved b ≡ v → v ≡ false
    by_test true e = sym (unreserved_plain class b e) ∙ h
    by_test false e = refl

canonical-token_for : (class : Class) (b : ℕ) → b < 256 → canonical_token Kept (token_for class b) ≡ token_for class b
canonical-token_for class b small =
    by_plain class b (λ t. canonical_token Kept t ≡ t) (λ h. refl)
    (λ h. cond-false _ _ _ (ap is_unreserved (escape_value b small) ∙ not_unreserved class b h) ∙ rw (upper_high b small, upper_low b small) refl)

-- ---- all bytes

pub small_byte : (b : ℕ) → is_in_range 0 255 b ≡ true → b < 256
small_byte b h = grind (arith, nat_tests)

each_allowed : (class : Class) (bytes : List ℕ) → are_bytes bytes ≡ true → list_all (allows class) (map (token_for class) bytes) ≡ true
each_allowed class [] h = refl
each_allowed class (b ∷ bytes) h =
    let both = and_parts (is_in_range 0 255 b) (are_bytes bytes) h in
    and_from _ _ (allows-token_for class b (small_byte b both.0)) (each_allowed class bytes both.1)

each_token : (class : Class) (ts : List Token) → list_all (allows class) ts ≡ true → list_all is_token ts ≡ true
each_token class [] h = refl
each_token class (t ∷ ts) h =
    let both = and_parts (allows class t) (list_all (allows class) ts) h in
    and_from _ _ (is_token-allows class t both.0) (each_token class ts both.1)

tokens-encoded : (class : Class) (bytes : List ℕ) → are_bytes bytes ≡ true → tokens (encoded class bytes) ≡ map (token_for class) bytes
unfolding encoded
tokens-encoded class bytes h = tokens_of_concatenation (map (token_for class) bytes) (each_token class (map (token_for class) bytes) (each_allowed class bytes h))

pub IsIn-encoded : (class : Class) (bytes : List ℕ) → are_bytes bytes ≡ true → IsIn class (encoded class bytes)
IsIn-encoded class bytes h = ap (list_all (allows class)) (tokens-encoded class bytes h) ∙ each_allowed class bytes h

values : (class : Class) (bytes : List ℕ) → are_bytes bytes ≡ true → map value_of (map (token_for class) bytes) ≡ bytes
values class [] h = refl
values class (b ∷ bytes) h =
    let both = and_parts (is_in_range 0 255 b) (are_bytes bytes) h in
    rw (value_of-token_for class b (small_byte b both.0), values class bytes both.1) refl

pub decoded-encoded : (class : Class) (bytes : List ℕ) → are_bytes bytes ≡ true → decoded (encoded class bytes) ≡ bytes
unfolding decoded
decoded-encoded class bytes h = ap (map value_of) (tokens-encoded class bytes h) ∙ values class bytes h

-- so does what a buffer begins with once the text is written there
pub decoded-written : (class : Class) (bytes old new : List ℕ) (n : ℕ) → are_bytes bytes ≡ true → Writes (encoded class bytes) (Ok n) old new
    → decoded (take n new) ≡ bytes
decoded-written class bytes old new n h is =
    let begins : take n new ≡ encoded class bytes =
    ap (λ m. take m new) is.0 ∙ ap (take (length (encoded class bytes))) is.1 ∙ take-append_seam (encoded class bytes) (drop (length (encoded class bytes)) old) in
    ap decoded begins ∙ decoded-encoded class bytes h

kept : (class : Class) (bytes : List ℕ) → are_bytes bytes ≡ true → map (canonical_token Kept) (map (token_for class) bytes) ≡ map (token_for class) bytes
kept class [] h = refl
kept class (b ∷ bytes) h =
    let both = and_parts (is_in_range 0 255 b) (are_bytes bytes) h in
    rw (canonical-token_for class b (small_byte b both.0), kept class bytes both.1) refl

unfold_encoded : (class : Class) (bytes : List ℕ) → encoded class bytes ≡ flat_map spell (map (token_for class) bytes)
unfolding encoded
unfold_encoded class bytes = refl

pub canonical-encoded : (case : Case) (class : Class) (bytes : List ℕ) → case ≡ Kept → are_bytes bytes ≡ true
    → canonical_in case (encoded class bytes) ≡ encoded class bytes
unfolding canonical_in
canonical-encoded case class bytes k h =
    ap (λ c. canonical_in c (encoded class bytes)) k
    ∙ ap (λ ts. flat_map spell (map (canonical_token Kept) ts)) (tokens-encoded class bytes h)
    ∙ ap (flat_map spell) (kept class bytes h)
    ∙ sym (unfold_encoded class bytes)

-- ---- texts with one canonical spelling

value-canonical_token : (t : Token) → has_digits t ≡ true → value_of (canonical_token Kept t) ≡ value_of t
value-canonical_token (Byte b) h = refl
value-canonical_token (Escape high low) h =
    let both = and_parts (is_hex high) (is_hex low) h in
    by_escaped Kept high low (λ t. value_of t ≡ escaped_byte high low) (λ e. refl) (λ e. rw (upper_value high both.0, upper_value low both.1) refl)

same_values : (ts : List Token) → list_all has_digits ts ≡ true → map value_of (map (canonical_token Kept) ts) ≡ map value_of ts
same_values [] h = refl
same_values (t ∷ ts) h =
    let both = and_parts (has_digits t) (list_all has_digits ts) h in
    rw (value-canonical_token t both.0, same_values ts both.1) refl

pub decoded-canonical : (text : List ℕ) → is_well_formed text ≡ true → decoded (canonical_in Kept text) ≡ decoded text
unfolding decoded
decoded-canonical text h = ap (map value_of) (tokens-canonical_in Kept text h) ∙ same_values (tokens text) (digits-tokens text)

pub decoded_alike : (class : Class) (other text : List ℕ) → IsIn class other → IsIn class text → canonical_in Kept other ≡ canonical_in Kept text
    → decoded other ≡ decoded text
decoded_alike class other text h k e =
    sym (decoded-canonical other (well_formed-in_class class other h)) ∙ ap decoded e ∙ decoded-canonical text (well_formed-in_class class text k)

-- ---- walks

pub decoded-nil : (text : List ℕ) → text ≡ [] → decoded text ≡ []
unfolding decoded
decoded-nil text e = ap (λ t. map value_of (tokens t)) e ∙ ap (map value_of) tokens-nil

pub decoded-cons : (rest after : List ℕ) (t : Token) → tokens rest ≡ t ∷ tokens after → decoded rest ≡ value_of t ∷ decoded after
unfolding decoded
decoded-cons rest after t e = ap (map value_of) e

pub decoded-byte : (b : ℕ) (t : List ℕ) → (b == percent) ≡ false → decoded (b ∷ t) ≡ b ∷ decoded t
decoded-byte b t h = decoded-cons (b ∷ t) t (Byte b) (tokens-byte b t (no_escape b t h))

pub encoded-nil : (class : Class) → encoded class [] ≡ []
unfolding encoded
encoded-nil class = refl

pub range_byte : (b : ℕ) → b < 256 → is_in_range 0 255 b ≡ true
range_byte b h = grind (arith, nat_tests)

-- ---- the same for texts of forms, and for bytes of which some more are escaped

pub form_decoded-nil : (text : List ℕ) → text ≡ [] → form_decoded text ≡ []
form_decoded-nil text e = ap (λ t. map form_value_of (tokens t)) e ∙ ap (map form_value_of) tokens-nil

-- ---- a text and bytes, walked together

pub represents_next : (rest after left later : List ℕ) (t : Token) (v b : ℕ) (whole : Bool) → tokens rest ≡ t ∷ tokens after → left ≡ b ∷ later → v ≡ value_of t
    → (v == b) ≡ true → bytes_eq (decoded rest) left ≡ whole → bytes_eq (decoded after) later ≡ whole
represents_next rest after left later t v b whole cut first value same h =
    ap (λ x. x && bytes_eq (decoded after) later) (sym (ap (λ x. x == b) (sym value) ∙ same))
    ∙ ap (bytes_eq (value_of t ∷ decoded after)) (sym first) ∙ ap (λ u. bytes_eq u left) (sym (decoded-cons rest after t cut)) ∙ h

pub represents_other : (rest after left later : List ℕ) (t : Token) (v b : ℕ) (whole : Bool) → tokens rest ≡ t ∷ tokens after → left ≡ b ∷ later → v ≡ value_of t
    → (v == b) ≡ false → bytes_eq (decoded rest) left ≡ whole → false ≡ whole
represents_other rest after left later t v b whole cut first value other h =
    ap (λ x. x && bytes_eq (decoded after) later) (sym (ap (λ x. x == b) (sym value) ∙ other))
    ∙ ap (bytes_eq (value_of t ∷ decoded after)) (sym first) ∙ ap (λ u. bytes_eq u left) (sym (decoded-cons rest after t cut)) ∙ h

pub represents_more : (rest after left : List ℕ) (t : Token) (whole : Bool) → tokens rest ≡ t ∷ tokens after → length left ≡ 0 → bytes_eq (decoded rest) left ≡ whole
    → false ≡ whole
represents_more rest after left t whole cut none h =
    by_left left none ∙ ap (λ u. bytes_eq u left) (sym (decoded-cons rest after t cut)) ∙ h
  where
    by_left : (l : List ℕ) → length l ≡ 0 → false ≡ bytes_eq (value_of t ∷ decoded after) l
    by_left [] e = refl
    by_left (b ∷ l) e = absurd (omega (arith, e))

pub represents_end : (rest left : List ℕ) (whole : Bool) → rest ≡ [] → bytes_eq (decoded rest) left ≡ whole → (length left == 0) ≡ whole
represents_end rest left whole none h = by_left left ∙ ap (λ u. bytes_eq u left) (sym (decoded-nil rest none)) ∙ h
  where
    by_left : (l : List ℕ) → (length l == 0) ≡ bytes_eq [] l
    by_left [] = refl
    by_left (b ∷ l) = grind (arith, nat_tests)

-- ---- two texts compared by the bytes that they represent

pub compared-cons : (rest after left later : List ℕ) (t u : Token) (v w : ℕ) (o whole : Ordering) → tokens rest ≡ t ∷ tokens after → tokens left ≡ u ∷ tokens later
    → v ≡ value_of t → w ≡ value_of u → o ≡ nat_cmp v w → slice_cmp nat_cmp (decoded rest) (decoded left) ≡ whole
    → ordering_then o (slice_cmp nat_cmp (decoded after) (decoded later)) ≡ whole
compared-cons rest after left later t u v w o whole cut other_cut value other_value is h =
    ap (λ x. ordering_then x (slice_cmp nat_cmp (decoded after) (decoded later))) is
    ∙ ap (λ x. ordering_then (nat_cmp x w) (slice_cmp nat_cmp (decoded after) (decoded later))) value
    ∙ ap (λ x. ordering_then (nat_cmp (value_of t) x) (slice_cmp nat_cmp (decoded after) (decoded later))) other_value
    ∙ ap (λ d. slice_cmp nat_cmp d (value_of u ∷ decoded later)) (sym (decoded-cons rest after t cut))
    ∙ ap (slice_cmp nat_cmp (decoded rest)) (sym (decoded-cons left later u other_cut)) ∙ h

pub compared_more : (rest after left : List ℕ) (t : Token) (whole : Ordering) → tokens rest ≡ t ∷ tokens after → left ≡ []
    → slice_cmp nat_cmp (decoded rest) (decoded left) ≡ whole → Greater ≡ whole
compared_more rest after left t whole cut none h =
    ap (slice_cmp nat_cmp (value_of t ∷ decoded after)) (sym (decoded-nil left none))
    ∙ ap (λ d. slice_cmp nat_cmp d (decoded left)) (sym (decoded-cons rest after t cut)) ∙ h

pub compared_less : (rest left later : List ℕ) (u : Token) (whole : Ordering) → rest ≡ [] → tokens left ≡ u ∷ tokens later
    → slice_cmp nat_cmp (decoded rest) (decoded left) ≡ whole → Less ≡ whole
compared_less rest left later u whole none cut h =
    ap (λ d. slice_cmp nat_cmp d (value_of u ∷ decoded later)) (sym (decoded-nil rest none))
    ∙ ap (slice_cmp nat_cmp (decoded rest)) (sym (decoded-cons left later u cut)) ∙ h

pub compared_end : (rest left : List ℕ) (whole : Ordering) → rest ≡ [] → left ≡ []
    → slice_cmp nat_cmp (decoded rest) (decoded left) ≡ whole → Equal ≡ whole
compared_end rest left whole none empty h =
    ap (slice_cmp nat_cmp []) (sym (decoded-nil left empty)) ∙ ap (λ d. slice_cmp nat_cmp d (decoded left)) (sym (decoded-nil rest none)) ∙ h

pub compared_same : (o whole : Ordering) (rest : Ordering) → o ≡ Equal → ordering_then o rest ≡ whole → rest ≡ whole
compared_same o whole rest is h = ap (λ x. ordering_then x rest) (sym is) ∙ h

pub compared_other : (o whole : Ordering) (rest : Ordering) → (o ≡ Equal → ⊥) → ordering_then o rest ≡ whole → o ≡ whole
compared_other Less whole rest other h = h
compared_other Greater whole rest other h = h
compared_other Equal whole rest other h = absurd (other refl)

-- ---- what two texts have in common

same_order : (x y : ℕ) → x ≡ y → nat_cmp x y ≡ Equal
same_order x y e = sym (nat_cmp_is x y Equal e)

pub after_represented : (n : ℕ) (left right : List ℕ) → AreCommon left right n → n ≤ length left → n ≤ length right
    → bytes_eq (decoded (drop n left)) (drop n right) ≡ bytes_eq (decoded left) right
after_represented zero left right are h k = refl
after_represented (suc n) [] right are h k = absurd (omega arith)
after_represented (suc n) (x ∷ left) [] are h k = absurd (omega arith)
after_represented (suc n) (x ∷ left) (y ∷ right) are h k =
    let first = are 0 (omega arith) in
    after_represented n left right (λ i l. are (suc i) (omega arith)) (omega arith) (omega arith)
    ∙ sym (ap (λ u. bytes_eq u (y ∷ right)) (decoded-byte x left first.1) ∙ ap (λ v. v && bytes_eq (decoded left) right) (eq-eqb x y first.0))

pub after_compared : (n : ℕ) (left right : List ℕ) → AreCommon left right n → n ≤ length left → n ≤ length right
    → slice_cmp nat_cmp (decoded (drop n left)) (decoded (drop n right)) ≡ slice_cmp nat_cmp (decoded left) (decoded right)
after_compared zero left right are h k = refl
after_compared (suc n) [] right are h k = absurd (omega arith)
after_compared (suc n) (x ∷ left) [] are h k = absurd (omega arith)
after_compared (suc n) (x ∷ left) (y ∷ right) are h k =
    let first = are 0 (omega arith) in
    after_compared n left right (λ i l. are (suc i) (omega arith)) (omega arith) (omega arith)
    ∙ sym (ap (λ u. slice_cmp nat_cmp u (decoded (y ∷ right))) (decoded-byte x left first.1)
    ∙ ap (slice_cmp nat_cmp (x ∷ decoded left)) (decoded-byte y right (ap (λ b. b == percent) (sym first.0) ∙ first.1))
    ∙ ap (λ o. ordering_then o (slice_cmp nat_cmp (decoded left) (decoded right))) (same_order x y first.0))
