use Rattle.std.proofs.lemmas.Grind.{common_steps}
use Rattle.std.proofs.Common.{arith}
use Rattle.uriparse_text.proofs.internal.token.Token.canonical.Goals as goal

pub returns-in-Byte : goal.returns-in-Byte
returns-in-Byte c = grind (arith, common_steps)

pub returns-then-is_unreserved : goal.returns-then-is_unreserved
returns-then-is_unreserved c = grind (arith, common_steps)

pub returns-else-is_unreserved : goal.returns-else-is_unreserved
returns-else-is_unreserved c = grind (arith, common_steps)
