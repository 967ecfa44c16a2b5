use Rattle.std.proofs.Common.{◌≡◌, length}
use Rattle.std.specs.Prelude.{bytes_eq}
use Rattle.uriparse_text.specs.Coding.{decoded}
use Rattle.uriparse_text.proofs.internal.coding.represents.Given as goal

abbrev pub invariant-tokens : goal.invariant-tokens
invariant-tokens l = bytes_eq (decoded l.rest) l.left ≡ bytes_eq (decoded l.text) l.bytes

abbrev pub decreases-tokens : goal.decreases-tokens
decreases-tokens l = length l.rest
