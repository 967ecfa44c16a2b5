use Rattle.uriparse_text.proofs.lemmas.tokens.PieceLemmas.{without_marks}
use Rattle.uriparse_text.proofs.internal.coding.EncodingWithoutByteTest.marks.Goals as goal

pub loop-b-preserved : goal.loop-b-preserved
loop-b-preserved c =
    without_marks c.args.self.now.0 c.args.self.now.1.now c.loop-b.b-index c.loop-b.marks c.marks-marks-in-loop-b.result c.args.lanes c.loop-b-test.true
    c.loop-b.invariant c.marks-marks-in-loop-b.ensures
