use Rattle.std.proofs.Common.{rules}
use Rattle.uri_commands.proofs.OutputsLemmas.{all_put, on_err, stopped, unput}
use Rattle.uri_commands.proofs.lines.do_buffered.Goals as goal

pub returns-in_err-pending-clause-stops : goal.returns-in_err-pending-clause-stops
returns-in_err-pending-clause-stops g c = on_err _ (unput c.args.work.now _ _)

pub returns-in_err-written-clause-stops : goal.returns-in_err-written-clause-stops
returns-in_err-written-clause-stops g c =
    on_err _ (stopped c.args.work.now _ _ _ _ _ _ _ c.do_lines-worst.result c.in_ok-pending.ensures.items c.do_lines-worst.ensures.output
    c.flush-finished.ensures.sends)

pub returns-in_err-worst-clause-stops : goal.returns-in_err-worst-clause-stops
returns-in_err-worst-clause-stops g c =
    on_err _ (stopped c.args.work.now _ _ _ _ _ _ _ c.do_lines-worst.result c.in_ok-pending.ensures.items c.do_lines-worst.ensures.output
    c.flush-finished.ensures.sends)

pub returns-in_err-finished-clause-stops : goal.returns-in_err-finished-clause-stops
returns-in_err-finished-clause-stops g c =
    on_err _ (stopped c.args.work.now _ _ _ _ _ _ _ c.do_lines-worst.result c.in_ok-pending.ensures.items c.do_lines-worst.ensures.output
    c.flush-finished.ensures.sends)

pub returns-clause-ok : goal.returns-clause-ok
returns-clause-ok g c =
    all_put c.args.work.now _ _ _ _ _ _ _ c.do_lines-worst.result _
    (search rules) c.in_ok-pending.ensures.items c.do_lines-worst.ensures.output
    c.flush-finished.ensures.sends (search rules)
