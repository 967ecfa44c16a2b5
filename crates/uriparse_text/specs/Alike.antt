-- Words of the clauses of private functions alone: how `same_spelling` and `compare_spelling` compare texts, by the codes of their canonical
-- tokens, after what the texts have in common. No public clause needs them.
use Rattle.std.specs.Prelude.{◌≡◌, ℕ, ◌+◌, ◌-◌, ◌*◌, ◌/◌, ◌%◌, ◌<◌, false, ◌==◌, ◌++◌, if◌then◌else◌, List, slice_index}
use Rattle.std.specs.Int.{is_in_range}
use Rattle.std.specs.Char.{digit_char, to_ascii_uppercase}
use Rattle.uriparse_text.specs.declared.internal.token.Token.{Token}
use Rattle.uriparse_text.specs.declared.internal.token.Token.TheVariants.{Byte, Escape}
use Rattle.uriparse_text.specs.declared.internal.token.Case.{Case}
use Rattle.uriparse_text.specs.Bytes.{percent}
use Rattle.uriparse_text.specs.Canonical.{canonical_tokens}

-- the upper-case digit of a number below 16
abbrev pub upper_digit_of : ℕ → ℕ
upper_digit_of n = to_ascii_uppercase (digit_char n)

-- the canonical token of this code: a byte's is itself, an escape's is 256 more than the byte it stands for
abbrev pub token_of : ℕ → Token
token_of n = if is_in_range 0 255 n then Byte n else Escape (upper_digit_of ((n - 256) / 16)) (upper_digit_of (n % 16))

-- this many leading bytes are the same in both texts, and none of them is `%`
abbrev pub AreCommon : List ℕ → List ℕ → ℕ → Type 0
AreCommon left right n = (k : ℕ) → k < n → (slice_index left k ≡ slice_index right k) × ((slice_index left k == percent) ≡ false)

-- the canonical tokens of two texts are the same ones at first, and then those of these rests
pub record Follow (case : Case) (left right after_left after_right : List ℕ) : Type 0 where
  pub front : List Token
  pub cut : canonical_tokens case left ≡ front ++ canonical_tokens case after_left
  pub other_cut : canonical_tokens case right ≡ front ++ canonical_tokens case after_right

-- A number for the canonical token of this code, which orders tokens as their bytes do: an escape's begin with `%`, as no other's do.
abbrev pub rank_of : ℕ → ℕ
rank_of n = if is_in_range 0 255 n then 256 * n else 256 * percent + (n - 256)
