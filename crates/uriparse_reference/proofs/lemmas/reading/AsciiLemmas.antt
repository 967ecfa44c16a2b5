-- A text that spells a reference is ASCII, and so is the text of a valid one.
use Rattle.std.proofs.Common.{◌≡◌, ℕ, ◌<◌, true, List, [], ◌∷◌, All, IsAscii, IsUtf8, arith}
use Rattle.std.proofs.lemmas.Bool.{and_parts}
use Rattle.std.proofs.lemmas.Bool.Decides.{nat_tests}
use Rattle.std.proofs.lemmas.List.Elements.{All-nil, All-cons}
use Rattle.std.proofs.lemmas.Str.{IsUtf8-from_ascii}
use Rattle.std.proofs.lemmas.Str.Ascii.{IsAscii-from_all}
use Rattle.uriparse_text.specs.Bytes.{is_unreserved, is_sub_delim}
use Rattle.uriparse_path.specs.Path.{IsPath}
use Rattle.uriparse_reference.specs.Reference.{Parts, Spells, Valid, print}
use Rattle.uriparse_reference.proofs.lemmas.reading.CharacterLemmas.{AreUriBytes, is_uri_byte, uri_bytes-path, uri_bytes-print, uri_bytes-spelled}

small_byte : (b : ℕ) → is_uri_byte b ≡ true → b < 128
unfolding is_unreserved is_sub_delim
small_byte b h = grind (arith, nat_tests)

all_small : (t : List ℕ) → AreUriBytes t → All (λ b. b < 128) t
all_small [] h = All-nil (λ b. b < 128)
all_small (b ∷ t) h = let both = and_parts _ _ h in All-cons (λ b. b < 128) b t (small_byte b both.0) (all_small t both.1)

ascii : (t : List ℕ) → AreUriBytes t → IsAscii t
ascii t h = IsAscii-from_all t (all_small t h)

pub IsAscii-path : (t : List ℕ) → IsPath t → IsAscii t
IsAscii-path t is = ascii t (uri_bytes-path t is)

pub IsAscii-spelled : (t : List ℕ) (p : Parts) → Spells t p → IsAscii t
IsAscii-spelled t p s = ascii t (uri_bytes-spelled t p s)

pub IsAscii-print : (p : Parts) → Valid p → IsAscii (print p)
IsAscii-print p v = ascii (print p) (uri_bytes-print p v)

pub IsUtf8-path : (t : List ℕ) → IsPath t → IsUtf8 t
IsUtf8-path t is = IsUtf8-from_ascii t (IsAscii-path t is)

pub IsUtf8-spelled : (t : List ℕ) (p : Parts) → Spells t p → IsUtf8 t
IsUtf8-spelled t p s = IsUtf8-from_ascii t (IsAscii-spelled t p s)

pub IsUtf8-print : (p : Parts) → Valid p → IsUtf8 (print p)
IsUtf8-print p v = IsUtf8-from_ascii (print p) (IsAscii-print p v)
