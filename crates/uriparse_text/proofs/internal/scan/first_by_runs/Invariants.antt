use Rattle.std.proofs.Common.{length, ◌-◌}
use Rattle.uriparse_text.proofs.lemmas.scans.ScanLemmas.{NoneBefore}
use Rattle.uriparse_text.proofs.internal.scan.first_by_runs.Given as goal

abbrev pub invariant-blocks-2 : goal.invariant-blocks-2
invariant-blocks-2 g l = NoneBefore (g.T.ByteTest.passes l.test) l.text l.at

abbrev pub decreases-blocks-2 : goal.decreases-blocks-2
decreases-blocks-2 g l = length l.text - l.at
