use Rattle.std.proofs.Common.{◌≡◌, ◌↔◌, length}
use Rattle.uriparse_text.specs.Canonical.{canonical_tokens}
use Rattle.uriparse_text.proofs.internal.equivalence.same_tokens.Given as goal

abbrev pub invariant-tokens : goal.invariant-tokens
invariant-tokens l =
    (canonical_tokens l.case l.left ≡ canonical_tokens l.case l.right) ↔ (canonical_tokens l.fn.case l.fn.bytes ≡ canonical_tokens l.fn.case l.fn.text)

abbrev pub decreases-tokens : goal.decreases-tokens
decreases-tokens l = length l.left
