use Rattle.uriparse_text.proofs.lemmas.scans.MarkLemmas.{run_marks}
use Rattle.uriparse_text.proofs.internal.scan.marks_of_run.Goals as goal

pub returns : goal.returns
returns g c =
    run_marks (g.T.ByteTest.passes c.args.test.now) c.args.text.now c.args.at c.args.from c.marks.result c.shifted_down.result
    c.requires.least c.requires.most c.requires.room c.marks.ensures c.shifted_down.ensures
