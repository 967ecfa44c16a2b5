use Rattle.std.proofs.Common.{◌≡◌, ◌-◌, length, subst, arith}
use Rattle.uriparse_text.specs.Marks.{AreMarks}
use Rattle.uriparse_text.proofs.lemmas.scans.MarkLemmas.{marks_bound, marks_from}
use Rattle.uriparse_text.proofs.internal.scan.marks_by_one.Goals as goal

pub overflow_mul-marks : goal.overflow_mul-marks
overflow_mul-marks g c = omega (arith, marks_bound (g.T.ByteTest.passes c.args.test.now) c.args.text.now c.bytes.at (omega arith))

pub overflow_add-marks : goal.overflow_add-marks
overflow_add-marks g c = omega (arith, marks_bound (g.T.ByteTest.passes c.args.test.now) c.args.text.now c.bytes.at (omega arith))

pub returns : goal.returns
returns g c =
    let test = g.T.ByteTest.passes c.args.test.now in
    let text = c.args.text.now in
    let at = c.bytes.at in
    let ends : at ≡ c.args.from = omega arith in
    subst (λ i. AreMarks test text i (length text - i) c.bytes.marks) ends (marks_from test text at c.bytes.marks (omega arith) c.bytes.invariant.marks)
