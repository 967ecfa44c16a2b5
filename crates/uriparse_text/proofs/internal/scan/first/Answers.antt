use Rattle.uriparse_text.proofs.lemmas.scans.ScanLemmas.{offset_within}
use Rattle.uriparse_text.proofs.internal.scan.first.Goals as goal

pub returns-then-len-lt8-clause-within : goal.returns-then-len-lt8-clause-within
returns-then-len-lt8-clause-within g c =
    offset_within (g.T.ByteTest.passes c.args.test.now) c.args.text.now c.first_by_one.result c.first_by_one.ensures

pub returns-then-len-lt16-clause-within : goal.returns-then-len-lt16-clause-within
returns-then-len-lt16-clause-within g c =
    offset_within (g.T.ByteTest.passes c.args.test.now) c.args.text.now c.first_of_short.result c.first_of_short.ensures

pub returns-else-len-lt16-clause-within : goal.returns-else-len-lt16-clause-within
returns-else-len-lt16-clause-within g c =
    offset_within (g.T.ByteTest.passes c.args.test.now) c.args.text.now c.first_by_runs.result c.first_by_runs.ensures
