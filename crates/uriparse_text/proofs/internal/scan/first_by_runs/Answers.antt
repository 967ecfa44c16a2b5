use Rattle.std.proofs.Common.{◌-◌, length, arith}
use Rattle.uriparse_text.proofs.lemmas.scans.ScanLemmas.{found_in_run, found_at_end, run_empty}
use Rattle.uriparse_text.proofs.internal.scan.first_by_runs.Goals as goal

pub returns-then-found-lt16 : goal.returns-then-found-lt16
returns-then-found-lt16 g c =
    found_in_run (g.T.ByteTest.passes c.args.test.now) c.args.text.now c.blocks-2.at c.blocks-2.at c.first_in-found.result c.blocks-2.invariant
    (omega arith) (omega arith) c.first_in-found.ensures (omega arith)

pub blocks-2-preserved : goal.blocks-2-preserved
blocks-2-preserved g c =
    run_empty (g.T.ByteTest.passes c.args.test.now) c.args.text.now c.blocks-2.at c.first_in-found.result c.blocks-2.invariant
    (omega arith) c.first_in-found.ensures (omega arith)

pub returns : goal.returns
returns g c =
    found_at_end (g.T.ByteTest.passes c.args.test.now) c.args.text.now c.blocks-2.at (length c.args.text.now - 16) c.first_in.result c.blocks-2.invariant
    (omega arith) (omega arith) c.first_in.ensures
