use Rattle.uriparse_text.proofs.lemmas.scans.MarkLemmas.{first_marked, none_marked}
use Rattle.uriparse_text.proofs.internal.scan.first_of_short.Goals as goal

pub returns-then-marks-eq0 : goal.returns-then-marks-eq0
returns-then-marks-eq0 g c =
    none_marked (g.T.ByteTest.passes c.args.test.now) c.args.text.now c.marks_of_short-marks.result c.marks_of_short-marks.ensures c.if-marks-eq0.true

pub returns : goal.returns
returns g c =
    first_marked (g.T.ByteTest.passes c.args.test.now) c.args.text.now c.marks_of_short-marks.result c.marks_of_short-marks.ensures c.lowest.result
    c.lowest.ensures.set c.lowest.ensures.below
