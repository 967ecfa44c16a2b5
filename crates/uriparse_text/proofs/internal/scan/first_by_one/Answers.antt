use Rattle.std.proofs.Common.{arith}
use Rattle.uriparse_text.proofs.lemmas.scans.ScanLemmas.{found_here, found_nowhere}
use Rattle.uriparse_text.proofs.internal.scan.first_by_one.Goals as goal

pub returns-then-has : goal.returns-then-has
returns-then-has g c =
    found_here (g.T.ByteTest.passes c.args.test.now) c.args.text.now c.bytes.at c.bytes.invariant (cc)

pub returns : goal.returns
returns g c =
    found_nowhere (g.T.ByteTest.passes c.args.test.now) c.args.text.now c.bytes.at c.bytes.invariant (omega arith)
