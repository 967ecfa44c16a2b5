use Rattle.std.proofs.Common.{refl}
use Rattle.uri_commands.proofs.RunLemmas.{found_quietly_equal, quietly_equal}
use Rattle.uri_commands.proofs.commands.run_three_words.Goals as goal

pub returns-in-Quiet-equal-clause-does : goal.returns-in-Quiet-equal-clause-does
returns-in-Quiet-equal-clause-does g c =
    quietly_equal c.args.mode c.args.name.now c.args.first.now c.args.second.now c.as_bytes.result.now c.as_bytes-in-Quiet-equal.result.now _ _ c.check_equal.result
    c.in-Quiet-equal.is-0 c.in-Quiet-equal.is-equal-1 c.as_bytes.ensures.value c.as_bytes-in-Quiet-equal.ensures.value c.check_equal.ensures refl

pub returns-in-Quiet-equal-clause-finds : goal.returns-in-Quiet-equal-clause-finds
returns-in-Quiet-equal-clause-finds g c = λ _. (
  found_quietly_equal c.args.mode c.args.name.now c.args.first.now c.args.second.now c.as_bytes.result.now c.as_bytes-in-Quiet-equal.result.now c.check_equal.result
      c.in-Quiet-equal.is-0 c.in-Quiet-equal.is-equal-1 c.as_bytes.ensures.value c.as_bytes-in-Quiet-equal.ensures.value c.check_equal.ensures,
  refl,
)
