use Rattle.std.proofs.Common.{◌≡◌, ◌↔◌, length}
use Rattle.uriparse_text.specs.Canonical as spec
use Rattle.uriparse_text.proofs.internal.canonical.walks_canonical.Given as goal

abbrev pub invariant-tokens : goal.invariant-tokens
invariant-tokens l = (spec.canonical_in l.case l.rest ≡ l.rest) ↔ (spec.canonical_in l.case l.text ≡ l.text)

abbrev pub decreases-tokens : goal.decreases-tokens
decreases-tokens l = length l.rest
