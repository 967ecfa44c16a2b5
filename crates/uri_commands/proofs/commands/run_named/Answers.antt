use Rattle.std.proofs.Common.{inr, refl}
use Rattle.uri_commands.proofs.RunLemmas.{too_many}
use Rattle.uri_commands.proofs.commands.run_named.Goals as goal

pub returns-in_default-clause-does : goal.returns-in_default-clause-does
returns-in_default-clause-does g c = inr (too_many c.args.mode c.args.name.now c.args.texts.now c.in_default.len_at_least, refl)

pub returns-in_default-clause-finds : goal.returns-in_default-clause-finds
returns-in_default-clause-finds g c = λ _. (too_many c.args.mode c.args.name.now c.args.texts.now c.in_default.len_at_least, refl)
