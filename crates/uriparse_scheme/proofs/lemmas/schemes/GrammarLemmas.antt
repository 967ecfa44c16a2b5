-- Properties of a text that is a scheme.
use Rattle.std.proofs.Common.{◌≡◌, ◌↔◌, ℕ, ◌<◌, Bool, true, not, List, [], ◌∷◌, IsUtf8, refl, ap, ◌∙◌, arith}
use Rattle.std.specs.Prelude.{◌==◌, IsTrue, bytes_eq}
use Rattle.std.specs.Char.{is_ascii_alphabetic, to_ascii_lowercase}
use Rattle.std.specs.List.{list_all}
use Rattle.std.specs.Str.{IsAscii, str_to_ascii_lowercase}
use Rattle.std.proofs.lemmas.Bool.{and_from, and_parts}
use Rattle.std.proofs.lemmas.Bool.Decides.{nat_tests}
use Rattle.std.proofs.lemmas.Str.{IsUtf8-from_ascii}
use Rattle.std.proofs.lemmas.Str.Ascii.{IsAscii-nil, IsAscii-cons}
use Rattle.uriparse_text.specs.Bytes.{percent}
use Rattle.uriparse_text.specs.Tokens.{is_well_formed}
use Rattle.uriparse_text.specs.Canonical.{canonical_lowered}
use Rattle.uriparse_text.specs.Cuts.{lacks}
use Rattle.uriparse_text.proofs.lemmas.readings.CutLemmas.{weaker}
use Rattle.uriparse_text.proofs.lemmas.tokens.UnescapedLemmas.{well_formed-plain, canonical_lowered-plain, same_plain}
use Rattle.uriparse_scheme.specs.Grammar.{is_scheme_byte, is_scheme}

byte_is_ascii : (b : ℕ) → is_scheme_byte b ≡ true → b < 128
byte_is_ascii b h = grind (arith, nat_tests)

byte_not_percent : (b : ℕ) → is_scheme_byte b ≡ true → not (b == percent) ≡ true
byte_not_percent b h = grind (arith, nat_tests)

letter_is_byte : (b : ℕ) → is_ascii_alphabetic b ≡ true → is_scheme_byte b ≡ true
letter_is_byte b h = grind (arith, nat_tests)

-- each byte of a scheme is a scheme byte
pub scheme_bytes : (t : List ℕ) → is_scheme t ≡ true → list_all is_scheme_byte t ≡ true
scheme_bytes [] h = refl
scheme_bytes (b ∷ t) h =
    let both = and_parts (is_ascii_alphabetic b) (list_all is_scheme_byte t) h in
    and_from _ _ (letter_is_byte b both.0) both.1

ascii : (t : List ℕ) → list_all is_scheme_byte t ≡ true → IsAscii t
ascii [] h = IsAscii-nil
ascii (b ∷ t) h =
    let both = and_parts (is_scheme_byte b) (list_all is_scheme_byte t) h in
    IsAscii-cons b t (byte_is_ascii b both.0) (ascii t both.1)

pub IsUtf8-scheme : (t : List ℕ) → is_scheme t ≡ true → IsUtf8 t
IsUtf8-scheme t h = IsUtf8-from_ascii t (ascii t (scheme_bytes t h))

-- a scheme has no escapes
pub scheme_lacks : (t : List ℕ) → is_scheme t ≡ true → lacks percent t ≡ true
scheme_lacks t h = weaker is_scheme_byte (λ b. not (b == percent)) byte_not_percent t (scheme_bytes t h)

pub well_formed-scheme : (t : List ℕ) → is_scheme t ≡ true → is_well_formed t ≡ true
well_formed-scheme t h = well_formed-plain t (scheme_lacks t h)

-- the canonical spelling of a scheme is the scheme in lower case
pub canonical_low_of_scheme : (t : List ℕ) → is_scheme t ≡ true → canonical_lowered t ≡ str_to_ascii_lowercase t
canonical_low_of_scheme t h = canonical_lowered-plain t (scheme_lacks t h)

-- ---- a scheme in lower case is a scheme

letter-lowered : (b : ℕ) → is_ascii_alphabetic b ≡ true → is_ascii_alphabetic (to_ascii_lowercase b) ≡ true
letter-lowered b h = grind (arith, nat_tests)

byte-lowered : (b : ℕ) → is_scheme_byte b ≡ true → is_scheme_byte (to_ascii_lowercase b) ≡ true
byte-lowered b h = grind (arith, nat_tests)

bytes-lowered : (t : List ℕ) → list_all is_scheme_byte t ≡ true → list_all is_scheme_byte (str_to_ascii_lowercase t) ≡ true
bytes-lowered [] h = refl
bytes-lowered (b ∷ t) h =
    let both = and_parts (is_scheme_byte b) (list_all is_scheme_byte t) h in
    and_from _ _ (byte-lowered b both.0) (bytes-lowered t both.1)

is_scheme-lowered : (t : List ℕ) → is_scheme t ≡ true → is_scheme (str_to_ascii_lowercase t) ≡ true
is_scheme-lowered [] h = h
is_scheme-lowered (b ∷ t) h =
    let both = and_parts (is_ascii_alphabetic b) (list_all is_scheme_byte t) h in
    and_from _ _ (letter-lowered b both.0) (bytes-lowered t both.1)

pub is_scheme-canonical_lowered : (t : List ℕ) → is_scheme t ≡ true → is_scheme (canonical_lowered t) ≡ true
is_scheme-canonical_lowered t h = ap is_scheme (canonical_low_of_scheme t h) ∙ is_scheme-lowered t h

-- a test of the texts in lower case is one of the canonical spellings
pub same_from_lowered : (left right : List ℕ) (r : Bool) → is_scheme left ≡ true → is_scheme right ≡ true →
    (IsTrue r ↔ (str_to_ascii_lowercase left ≡ str_to_ascii_lowercase right)) → r ≡ bytes_eq (canonical_lowered left) (canonical_lowered right)
same_from_lowered left right r h k iff = same_plain left right r (scheme_lacks left h) (scheme_lacks right k) iff
