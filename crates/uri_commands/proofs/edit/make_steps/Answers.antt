use Rattle.std.proofs.Common.{◌+◌, arith, take}
use Rattle.std.proofs.lemmas.Grind.{common_steps}
use Rattle.uri_commands.proofs.EditLemmas.{steps_next, steps_stop}
use Rattle.uri_commands.proofs.edit.make_steps.Goals as goal

pub returns-in-Err : goal.returns-in-Err
returns-in-Err c =
    steps_stop _ c.args.steps.now c.loop-step.step-index c.step-item.result _ _ c.loop-step.invariant
    (grind (arith, common_steps)) c.in-Err.ensures

pub loop-step-preserved : goal.loop-step-preserved
loop-step-preserved c =
    steps_next (take c.loop-step.step-index c.args.steps.now)
    (take (c.loop-step.step-index + 1) c.args.steps.now) c.step-item.result _ _ _ c.loop-step.invariant
    (grind (arith, common_steps)) c.in_default.ensures
