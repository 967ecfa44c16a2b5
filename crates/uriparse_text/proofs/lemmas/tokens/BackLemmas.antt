-- What texts represent are bytes, and bytes that were written as a text are read back.
use Rattle.std.proofs.Common.{◌≡◌, ℕ, ◌<◌, true, false, List, [], ◌∷◌, length, map, Option, Some, None, refl, ap, ◌∙◌, arith}
use Rattle.std.specs.Prelude.{◌==◌, ◌&&◌, cond, not, codes, unwrap_or}
use Rattle.std.specs.Char.{digit_value}
use Rattle.std.specs.Int.{is_in_range}
use Rattle.std.specs.List.{list_all}
use Rattle.std.specs.Option.{option_map}
use Rattle.std.proofs.lemmas.Bool.{and_from, and_parts, cond-false, not-true}
use Rattle.std.proofs.lemmas.Bool.Decides.{nat_tests}
use Rattle.uriparse_text.specs.declared.internal.token.Token.{Token}
use Rattle.uriparse_text.specs.declared.internal.token.Token.TheVariants.{Byte, Escape}
use Rattle.uriparse_text.specs.declared.internal.class.Class.{Class}
use Rattle.uriparse_text.specs.declared.internal.class.Class.TheVariants.{Query}
use Rattle.uriparse_text.specs.Bytes.{is_among, is_hex, plus_sign}
use Rattle.uriparse_text.specs.Classes.{is_plain}
use Rattle.uriparse_text.specs.Tokens.{tokens}
use Rattle.uriparse_text.specs.Faults.{allows, IsIn}
use Rattle.uriparse_text.specs.Canonical.{escaped_byte}
use Rattle.uriparse_text.specs.Coding.{are_bytes, decoded, form_decoded, form_value_of, token_without, value_of}
use Rattle.uriparse_text.specs.Pairs.{Pair, are_pair_bytes, encoded_in_pair, encoded_pair, form_decoded_pair, joined_pairs, pairs}
use Rattle.uriparse_text.proofs.lemmas.classes.ClassLemmas.{bytes-in_class, hex_ascii, plain_ascii}
use Rattle.uriparse_text.proofs.lemmas.tokens.CodingLemmas.{range_byte, small_byte}
use Rattle.uriparse_text.proofs.lemmas.readings.PairLemmas.{by_kept, kept_lacks, pairs-joined, tokens-encoded_without, value_without}

-- ---- the bytes of a text, and those that it stands for

plain_byte : (class : Class) (b : ℕ) → is_plain class b ≡ true → is_in_range 0 255 b ≡ true
plain_byte class b h = let small = plain_ascii class b h in range_byte b (omega (arith, small))

hex_byte : (b : ℕ) → is_hex b ≡ true → is_in_range 0 255 b ≡ true
hex_byte b h = let small = hex_ascii b h in range_byte b (omega (arith, small))

pub are_bytes-in_class : (class : Class) (text : List ℕ) → IsIn class text → are_bytes text ≡ true
are_bytes-in_class class text h = bytes-in_class class (is_in_range 0 255) (plain_byte class) refl hex_byte text h

digit_small : (b : ℕ) → is_hex b ≡ true → digit_value b < 16
digit_small b h = grind (arith, nat_tests)

escape_byte : (high low : ℕ) → (is_hex high && is_hex low) ≡ true → is_in_range 0 255 (escaped_byte high low) ≡ true
escape_byte high low h =
    let both = and_parts _ _ h in
    let first = digit_small high both.0 in
    let second = digit_small low both.1 in
    range_byte (escaped_byte high low) (omega (arith, first, second))

value_byte : (class : Class) (t : Token) → allows class t ≡ true → is_in_range 0 255 (value_of t) ≡ true
value_byte class (Byte b) h = plain_byte class b h
value_byte class (Escape high low) h = escape_byte high low h

form_value_byte : (class : Class) (t : Token) → allows class t ≡ true → is_in_range 0 255 (form_value_of t) ≡ true
form_value_byte class (Byte b) h =
    elim (b == plus_sign) as (λ v. is_in_range 0 255 (cond v 32 b) ≡ true) [ true ↦ refl | false ↦ plain_byte class b h ]
form_value_byte class (Escape high low) h = escape_byte high low h

each_value : (class : Class) (value : Token → ℕ) → ((t : Token) → allows class t ≡ true → is_in_range 0 255 (value t) ≡ true)
    → (ts : List Token) → list_all (allows class) ts ≡ true → are_bytes (map value ts) ≡ true
each_value class value f [] h = refl
each_value class value f (t ∷ ts) h = let both = and_parts _ _ h in and_from _ _ (f t both.0) (each_value class value f ts both.1)

pub are_bytes-decoded : (class : Class) (text : List ℕ) → IsIn class text → are_bytes (decoded text) ≡ true
unfolding decoded
are_bytes-decoded class text h = each_value class value_of (value_byte class) (tokens text) h

pub are_bytes-form_decoded : (class : Class) (text : List ℕ) → IsIn class text → are_bytes (form_decoded text) ≡ true
are_bytes-form_decoded class text h = each_value class form_value_of (form_value_byte class) (tokens text) h

-- ---- the bytes of a name or a value, in a form

no_plus : (b : ℕ) → (is_plain Query b && not (is_among (codes "&=+*") b)) ≡ true → form_value_of (Byte b) ≡ b
no_plus b h = cond-false (b == plus_sign) _ _ (not-true (b == plus_sign) (kept_lacks Query (codes "&=+*") plus_sign refl refl refl b h))

form_value : (b : ℕ) → b < 256 → form_value_of (token_without Query (codes "&=+*") b) ≡ value_of (token_without Query (codes "&=+*") b)
form_value b small = by_kept Query (codes "&=+*") b (λ t. form_value_of t ≡ value_of t) (no_plus b) refl

form_values : (bytes : List ℕ) → are_bytes bytes ≡ true → map form_value_of (map (token_without Query (codes "&=+*")) bytes) ≡ bytes
form_values [] h = refl
form_values (b ∷ bytes) h =
    let both = and_parts (is_in_range 0 255 b) (are_bytes bytes) h in
    let small = small_byte b both.0 in
    rw (form_value b small, value_without Query (codes "&=+*") b small, form_values bytes both.1) refl

pub form_decoded-encoded : (bytes : List ℕ) → are_bytes bytes ≡ true → form_decoded (encoded_in_pair bytes) ≡ bytes
form_decoded-encoded bytes h = ap (map form_value_of) (tokens-encoded_without Query (codes "&=+*") bytes) ∙ form_values bytes h

form_decoded_value : (o : Option (List ℕ)) → are_bytes (unwrap_or o []) ≡ true → option_map form_decoded (option_map encoded_in_pair o) ≡ o
form_decoded_value None h = refl
form_decoded_value (Some t) h = ap Some (form_decoded-encoded t h)

all_form_decoded : (ps : List Pair) → list_all are_pair_bytes ps ≡ true → map form_decoded_pair (map encoded_pair ps) ≡ ps
all_form_decoded [] h = refl
all_form_decoded (p ∷ ps) h =
    let both = and_parts _ _ h in
    let bytes = and_parts (are_bytes p.0) (are_bytes (unwrap_or p.1 [])) both.0 in
    rw (form_decoded-encoded p.0 bytes.0, form_decoded_value p.1 bytes.1, all_form_decoded ps both.1) refl

pub form_back : (ps : List Pair) → 0 < length ps → list_all are_pair_bytes ps ≡ true
    → map form_decoded_pair (pairs (joined_pairs (map encoded_pair ps))) ≡ ps
form_back ps some bytes = ap (map form_decoded_pair) (pairs-joined ps some) ∙ all_form_decoded ps bytes
