use Rattle.std.proofs.Common.{◌≡◌, ℕ, zero, suc, ◌<◌, [], ◌∷◌, refl, arith}
use Rattle.std.proofs.lemmas.Grind.{common_steps}
use Rattle.std.specs.Net.Addr.{octets_of}
use Rattle.uriparse_text.specs.Reach.{ipv4_reach, ipv4_rows, ipv6_reach, ipv6_rows}
use Rattle.uriparse_text.proofs.laws.embedded_addresses.Goals as goal

-- the address ends in these segments
abbrev LeadsAsLast : ℕ → ℕ → Type 0
LeadsAsLast a b = ipv6_reach (0 ∷ 0 ∷ 0 ∷ 0 ∷ 0 ∷ 0 ∷ a ∷ b ∷ []) ≡ ipv4_reach (octets_of (a ∷ b ∷ []))

high : (a b : ℕ) → 0 < a → LeadsAsLast a b
unfolding ipv6_reach ipv6_rows
high a b h = grind (arith, common_steps)

low : (b : ℕ) → 1 < b → LeadsAsLast 0 b
unfolding ipv6_reach ipv6_rows
low b h = grind (arith, common_steps)

none : LeadsAsLast 0 0
unfolding ipv6_reach ipv6_rows ipv4_reach ipv4_rows
none = refl

compatible : (a b : ℕ) → ((a ≡ 0) × (b ≡ 1) → ⊥) → LeadsAsLast a b
compatible (suc a) b h = high (suc a) b (omega arith)
compatible zero zero h = none
compatible zero (suc zero) h = absurd (h (refl, refl))
compatible zero (suc (suc b)) h = low (suc (suc b)) (omega arith)

pub returns-clause-compatible : goal.returns-clause-compatible
returns-clause-compatible c = compatible
