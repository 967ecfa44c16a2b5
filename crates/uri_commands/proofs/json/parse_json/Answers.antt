use Rattle.std.proofs.Common.{arith}
use Rattle.uri_commands.proofs.json.parse_json.Goals as goal

pub returns-in-Err-clause-only : goal.returns-in-Err-clause-only
returns-in-Err-clause-only g c = λ p s. let read = c.in-Err.ensures.only p s in let no : ⊥ = grind (arith, read) in absurd no
