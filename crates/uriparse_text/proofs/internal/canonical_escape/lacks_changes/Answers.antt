use Rattle.std.proofs.Common.{◌+◌, ◌-◌, length, arith}
use Rattle.std.proofs.lemmas.Bool.{eqb-true}
use Rattle.uriparse_text.proofs.lemmas.canonical.ChangedLemmas.{none_marked, none_more, none_at_all}
use Rattle.uriparse_text.proofs.internal.canonical_escape.lacks_changes.Goals as goal

pub runs-preserved : goal.runs-preserved
runs-preserved c =
    (none_more c.args.text.now c.runs.at c.runs.at c.runs.invariant.0 (omega arith) (none_marked c.args.text.now c.runs.at c.marks_of_changed.result c.marks_of_changed.ensures (omega arith)), omega arith)

pub returns : goal.returns
returns c h =
    let start = length c.args.text.now - 18 in
    none_at_all c.args.text.now (start + 16)
    (none_more c.args.text.now c.runs.at start c.runs.invariant.0 (omega arith) (none_marked c.args.text.now start c.marks_of_changed-2.result c.marks_of_changed-2.ensures (eqb-true c.marks_of_changed-2.result 0 h)))
    (omega arith)
