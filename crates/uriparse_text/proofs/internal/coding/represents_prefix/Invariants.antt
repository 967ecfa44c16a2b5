use Rattle.std.proofs.Common.{◌≡◌, length}
use Rattle.std.specs.Prelude.{◌==◌}
use Rattle.std.specs.List.{starts_with}
use Rattle.uriparse_text.specs.Coding.{decoded}
use Rattle.uriparse_text.proofs.internal.coding.represents_prefix.Given as goal

abbrev pub invariant-tokens : goal.invariant-tokens
invariant-tokens l =
    starts_with (λ b c. b == c) (decoded l.rest) (decoded l.left) ≡ starts_with (λ b c. b == c) (decoded l.text) (decoded l.prefix)

abbrev pub decreases-tokens : goal.decreases-tokens
decreases-tokens l = length l.left
