-- The front of a text that stays as it is in the canonical spelling.
use Rattle.std.proofs.Common.{◌≡◌, ℕ, Bool, true, false, ◌&&◌, not, cond, List, [], ◌∷◌, ◌++◌, refl, ap, ◌∙◌}
use Rattle.std.specs.Prelude.{◌==◌}
use Rattle.std.proofs.lemmas.Bool.{or_parts, not-false, eqb-true}
use Rattle.uriparse_text.specs.declared.internal.token.Token.TheVariants.{Byte}
use Rattle.uriparse_text.specs.declared.internal.token.Case.{Case}
use Rattle.uriparse_text.specs.Bytes.{percent, is_hex}
use Rattle.uriparse_text.specs.Tokens.{is_escape}
use Rattle.uriparse_text.specs.Canonical.{in_case, may_change, canonical_in}
use Rattle.uriparse_text.specs.Cuts.{up_to, from_first}
use Rattle.uriparse_text.specs.Pieces.{Keeps}
use Rattle.uriparse_text.proofs.lemmas.tokens.TokenLemmas.{tokens-byte}
use Rattle.uriparse_text.proofs.lemmas.canonical.CanonicalLemmas.{canonical_in-cons, canonical_in-nil}

pub no_escape : (b : ℕ) (after : List ℕ) → (b == percent) ≡ false → is_escape b after ≡ false
no_escape b [] h = refl
no_escape b (c ∷ []) h = refl
no_escape b (c ∷ d ∷ after) h = ap (λ v. v && is_hex c && is_hex d) h

same_byte : (case : Case) (b : ℕ) → not (in_case case b == b) ≡ false → in_case case b ≡ b
same_byte case b h = eqb-true (in_case case b) b (not-false (in_case case b == b) h)

-- a byte that stays in front
pub canonical_in-stays : (case : Case) (b : ℕ) (t : List ℕ) → may_change case b ≡ false → canonical_in case (b ∷ t) ≡ b ∷ canonical_in case t
canonical_in-stays case b t h =
    let parts = or_parts (b == percent) (not (in_case case b == b)) h in
    canonical_in-cons case (b ∷ t) t (Byte b) (tokens-byte b t (no_escape b t parts.0)) ∙ ap (λ c. c ∷ canonical_in case t) (same_byte case b parts.1)

pub canonical_in-run : (case : Case) (t : List ℕ) → canonical_in case t ≡ up_to (may_change case) t ++ canonical_in case (from_first (may_change case) t)
canonical_in-run case [] = refl
canonical_in-run case (b ∷ t) = by_first (may_change case b) refl (canonical_in-run case t)
  where
    by_first : (v : Bool) → may_change case b ≡ v → canonical_in case t ≡ up_to (may_change case) t ++ canonical_in case (from_first (may_change case) t)
        → canonical_in case (b ∷ t) ≡ cond v [] (b ∷ up_to (may_change case) t) ++ canonical_in case (cond v (b ∷ t) (from_first (may_change case) t))
    by_first true e h = refl
    by_first false e h = canonical_in-stays case b t e ∙ ap (λ u. b ∷ u) h

-- a canonical spelling keeps each byte that doesn't change
pub spelling_keeps : (case : Case) → Keeps (may_change case) (canonical_in case)
spelling_keeps case = record { nothing = canonical_in-nil case; stays = canonical_in-stays case }
