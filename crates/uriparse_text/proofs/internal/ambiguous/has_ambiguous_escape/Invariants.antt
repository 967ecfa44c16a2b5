use Rattle.std.proofs.Common.{◌≡◌, length}
use Rattle.uriparse_text.specs.Ambiguous.{has_ambiguous_escape}
use Rattle.uriparse_text.proofs.internal.ambiguous.has_ambiguous_escape.Given as goal

abbrev pub invariant-escapes : goal.invariant-escapes
invariant-escapes l = has_ambiguous_escape l.rest ≡ has_ambiguous_escape l.text

abbrev pub decreases-escapes : goal.decreases-escapes
decreases-escapes l = length l.rest
