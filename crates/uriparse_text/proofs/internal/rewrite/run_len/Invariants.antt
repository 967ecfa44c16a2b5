use Rattle.std.proofs.Common.{◌-◌, ◌≤◌}
use Rattle.uriparse_text.proofs.lemmas.scans.ScanLemmas.{NoneBefore}
use Rattle.uriparse_text.proofs.internal.rewrite.run_len.Given as goal

abbrev pub invariant-few : goal.invariant-few
invariant-few g l = NoneBefore (g.T.ByteTest.passes l.test) l.text l.at × (1 ≤ l.at)

abbrev pub decreases-few : goal.decreases-few
decreases-few g l = 4 - l.at
