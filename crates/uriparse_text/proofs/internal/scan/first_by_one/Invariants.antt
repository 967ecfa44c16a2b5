use Rattle.std.proofs.Common.{length, ◌-◌}
use Rattle.uriparse_text.proofs.lemmas.scans.ScanLemmas.{NoneBefore}
use Rattle.uriparse_text.proofs.internal.scan.first_by_one.Given as goal

abbrev pub invariant-bytes : goal.invariant-bytes
invariant-bytes g l = NoneBefore (g.T.ByteTest.passes l.test) l.text l.at

abbrev pub decreases-bytes : goal.decreases-bytes
decreases-bytes g l = length l.text - l.at
