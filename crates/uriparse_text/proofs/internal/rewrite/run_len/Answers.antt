use Rattle.std.proofs.Common.{arith}
use Rattle.uriparse_text.proofs.lemmas.scans.ScanLemmas.{found_here, found_nowhere}
use Rattle.uriparse_text.proofs.internal.rewrite.run_len.Goals as goal
use Rattle.uriparse_text.proofs.internal.rewrite.run_len.Goals.{then-at-text-via-then-at-text, then-at-text-via-else-at-text+then-has}

pub returns-then-at-text-clause-offset : goal.returns-then-at-text-clause-offset
returns-then-at-text-clause-offset g c = elim c.then-at-text.branch [
  | then-at-text-via-then-at-text w ↦ found_nowhere (g.T.ByteTest.passes c.args.test.now) c.args.text.now c.few.at c.few.invariant.0 (omega arith)
  | then-at-text-via-else-at-text+then-has w ↦ found_here (g.T.ByteTest.passes c.args.test.now) c.args.text.now c.few.at c.few.invariant.0 (cc)
]
