-- Printing a value, whatever options the formatter has.
use Rattle.std.specs.Prelude.{◌≡◌, ℕ, List}
use Rattle.std.specs.Fmt.{HasWrittenStyled, IsFlush}
use Rattle.uriparse_text.specs.declared.internal.print.Kept.{Kept}

-- the bytes are written by the formatter inside, which keeps its options
pub record WritesStyled {W : Type 0} (took : W → List ℕ → W → Type 0) (old : Kept W) (bs : List ℕ) (new : Kept W) : Type 0 where
  pub wrote : IsFlush old.f.now → HasWrittenStyled took old.f.now bs new.f.now
  pub same_reference : new.f.ghost_name ≡ old.f.ghost_name
