use Rattle.std.proofs.Common.{◌∙◌, ap, sym, subst, refl, IsErr, Ok}
use Rattle.uri_commands.proofs.OutputsLemmas.{ends, finishes, goes_further, sends_none, sends_on, starts, stops}
use Rattle.uri_commands.proofs.lines.do_lines.Goals as goal

pub lines-init : goal.lines-init
lines-init g c = record { kept = λ _. refl; goes = starts c.args.work.now _ _ _ }

pub returns-in-Err-clause-output : goal.returns-in-Err-clause-output
returns-in-Err-clause-output g c = stops c.args.work.now _ _ _ _ _ _ _ _ c.lines.worst c.lines.invariant.goes c.next_line.ensures.contents

pub returns-in-End-clause-output : goal.returns-in-End-clause-output
returns-in-End-clause-output g c =
    ends c.args.work.now _ _ _ _ _ _ _ _ c.lines.worst c.lines.invariant.goes
    (c.in-Ok.ensures.end (ap Ok c.in-End.is)) c.in-Ok.ensures.contents

pub returns-in-Err-do_line : goal.returns-in-Err-do_line
returns-in-Err-do_line g c = record {
  kept = λ failed.
      let same = c.lines.invariant.kept failed in
      c.next_line.ensures.kept (subst IsErr (sym same) failed) ∙ same;
  output = stops c.args.work.now _ _ _ _ _ _ _ _ c.lines.worst c.lines.invariant.goes
      (sends_on _ _ _ _ _ _ _ c.next_line.ensures.contents c.in-Err-do_line.ensures.err.1);
  err = c.at_line.ensures c.in-Err-do_line.ensures.err.0;
}

pub returns-in-LastLine : goal.returns-in-LastLine
returns-in-LastLine g c =
    let goes = goes_further c.args.work.now _ _ _ _ _ _ _ _ _ _ _ _ _ _ _ _ c.lines.invariant.goes c.deref.ensures.value
    c.in-Ok.ensures.line c.in-Ok.ensures.rest
    (c.in-Ok.ensures.some c.in_default.not-End) c.in-Ok.ensures.contents c.in-Ok-do_line.ensures.ok c.or-worst.ensures in record {
      kept = λ failed.
          let same = c.lines.invariant.kept failed in
          c.next_line.ensures.kept (subst IsErr (sym same) failed) ∙ same;
      output =
          finishes c.args.work.now _ _ _ _ _ _ _ _ _ c.lines.worst c.or-worst.result c.lines.invariant.goes goes
          (c.in-Ok.ensures.last (ap Ok c.in-LastLine.is));
      err = tt;
    }

pub lines-preserved : goal.lines-preserved
lines-preserved g c = record {
  kept = λ failed.
      let same = c.lines.invariant.kept failed in
      c.next_line.ensures.kept (subst IsErr (sym same) failed) ∙ same;
  goes =
      goes_further c.args.work.now _ _ _ _ _ _ _ _ _ _ _ _ _ _ _ _ c.lines.invariant.goes c.deref.ensures.value c.in-Ok.ensures.line
      c.in-Ok.ensures.rest
      (c.in-Ok.ensures.some c.in_default.not-End) c.in-Ok.ensures.contents c.in-Ok-do_line.ensures.ok c.or-worst.ensures;
}

pub returns-clause-output : goal.returns-clause-output
returns-clause-output g c = stops c.args.work.now _ _ _ _ _ _ _ _ c.lines.worst c.lines.invariant.goes (sends_none _ _)
