use Rattle.std.proofs.Common.{◌+◌, ◌-◌, length, arith}
use Rattle.uriparse_text.proofs.lemmas.classes.FaultByByteLemmas.{last_run}
use Rattle.uriparse_text.proofs.internal.class.fault_by_runs.Goals as goal

pub returns : goal.returns
returns c =
    rw c.unwrap_or.ensures
    (last_run c.args.class c.args.text.now c.runs.at (length c.args.text.now - 16 + 16) c.fault_in-2.result c.fault_in-2.ensures
    c.runs.invariant.1 (omega arith))
