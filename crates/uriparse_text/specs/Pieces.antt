-- Texts that are rewritten piece by piece. A text's pieces are runs of bytes, which end where a byte passes a test (`up_to` and `from_first`), and
-- the tokens between them. Words of private functions' clauses alone.
use Rattle.std.specs.Prelude.{◌≡◌, ℕ, Bool, false, List, [], ◌∷◌}

-- the rewriting keeps each byte that doesn't pass, and rewrites what follows it
pub record Keeps (p : ℕ → Bool) (f : List ℕ → List ℕ) : Type 0 where
  pub nothing : f [] ≡ []
  pub stays : (b : ℕ) (t : List ℕ) → p b ≡ false → f (b ∷ t) ≡ b ∷ f t
