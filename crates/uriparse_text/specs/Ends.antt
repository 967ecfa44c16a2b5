-- A text that is put together from its end, in the last bytes of a buffer.
use Rattle.std.specs.Prelude.{◌≡◌, ℕ, ◌≤◌, List, ◌++◌, ◌-◌, ◌^◌, length, drop, min}
use Rattle.uriparse_text.specs.declared.internal.token.Case.{Case}
use Rattle.uriparse_text.specs.declared.internal.backward_buffer.Form.{Form}
use Rattle.uriparse_text.specs.declared.internal.backward_buffer.Form.TheVariants.{AsIs, Canonical}
use Rattle.uriparse_text.specs.Canonical.{canonical_in}

-- The buffer ends with the text, if it has room for it. `len` is the text's length, or the largest number.
pub record EndsWith (buffer : List ℕ) (len : ℕ) (t : List ℕ) : Type 0 where
  pub size : len ≡ min (length t) (2 ^ 64 - 1)
  pub fits : length t ≤ length buffer → drop (length buffer - length t) buffer ≡ t

-- these bytes are put in front of any text that the buffer ends with
abbrev pub Puts : List ℕ → List ℕ → ℕ → List ℕ → ℕ → Type 0
Puts bytes old len new result = (t : List ℕ) → EndsWith old len t → EndsWith new result (bytes ++ t)

-- the text as it is, or its canonical spelling
abbrev pub formed : Form → Case → List ℕ → List ℕ
formed AsIs case t = t
formed Canonical case t = canonical_in case t
