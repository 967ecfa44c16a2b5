use Rattle.std.proofs.Common.{refl}
use Rattle.uri_commands.proofs.EditLemmas.{changes_next_read, changes_next_readable, changes_read, changes_unread, changes_within}
use Rattle.uri_commands.proofs.edit.read_changes.Goals as goal

pub returns-in_err-act : goal.returns-in_err-act
returns-in_err-act c =
    changes_unread c.args.changes.now c.changes.index _ _ _ _ c.changes-test.true c.changes.invariant.readable refl
    c.in_err-act.ensures c.from_residual-in_err-act.ensures.1

pub changes-preserved : goal.changes-preserved
changes-preserved c = record {
  within = changes_within c.args.changes.now c.changes.index c.in_ok-act.more c.changes-test.true c.in_ok-act.ensures.within;
  readable =
      changes_next_readable c.args.changes.now c.changes.index c.in_ok-act.more _ _ _ c.changes-test.true c.changes.invariant.readable refl
      c.in_ok-act.ensures;
  makes =
      changes_next_read c.args.changes.now c.changes.index c.in_ok-act.more _ _ c.changes.steps.items _ _ c.changes-test.true
      c.changes.invariant.makes refl c.in_ok-act.ensures c.in_ok-push.ensures.items;
}

pub returns : goal.returns
returns c =
    changes_read c.args.changes.now c.changes.index c.changes.steps.items c.changes.invariant.readable c.changes.invariant.makes
    c.changes-test.false
