use Rattle.std.proofs.Common.{sym, ap, subst, ◌∙◌, arith}
use Rattle.std.specs.Int.{bit_at}
use Rattle.std.proofs.lemmas.Nat.Bits.{bit_at-zero}
use Rattle.uriparse_text.specs.Alike.{AreCommon}
use Rattle.uriparse_text.proofs.lemmas.canonical.ComparisonLemmas.{common_more}
use Rattle.uriparse_text.proofs.internal.equivalence.common_run.Goals as goal
use Rattle.uriparse_text.proofs.internal.equivalence.common_run.Goals.{then-len-at-ge8+else-marks-ne0-2, else-len-at-ge8}

pub returns-then-marks-ne0-clause-common : goal.returns-then-marks-ne0-clause-common
returns-then-marks-ne0-clause-common c =
    common_more c.args.left.now c.args.right.now c.runs.at c.lowest.result c.runs.invariant.1
    (λ k h. c.marks_of_pair-marks.ensures.common k (omega (
      arith,
      c.marks_of_pair-marks.ensures.within c.lowest.result c.lowest.ensures.set,
    )) (c.lowest.ensures.below k h))

pub runs-preserved : goal.runs-preserved
runs-preserved c = (
  omega arith,
  common_more c.args.left.now c.args.right.now c.runs.at 16 c.runs.invariant.1
      (λ k h. c.marks_of_pair-marks.ensures.common k h (ap (λ m. bit_at m k) c.if-marks-ne0.false ∙ bit_at-zero k)),
)

pub returns-then-marks-ne0-2-clause-common : goal.returns-then-marks-ne0-2-clause-common
returns-then-marks-ne0-2-clause-common c =
    common_more c.args.left.now c.args.right.now c.runs.at c.lowest-then-marks-ne0-2.result c.runs.invariant.1
    (λ k h. c.marks_of_pair-marks-then-len-at-ge8.ensures.common k
    (omega (arith, c.marks_of_pair-marks-then-len-at-ge8.ensures.within c.lowest-then-marks-ne0-2.result c.lowest-then-marks-ne0-2.ensures.set))
    (c.lowest-then-marks-ne0-2.ensures.below k h))

pub common_by_one-requires-clause-common : goal.common_by_one-requires-clause-common
common_by_one-requires-clause-common c = elim c.if-len-at-ge8.branch [
  | then-len-at-ge8+else-marks-ne0-2 w ↦
      subst (AreCommon c.args.left.now c.args.right.now) (sym w.at-is)
      (common_more c.args.left.now c.args.right.now c.runs.at 8 c.runs.invariant.1
      (λ k h. w.marks_of_pair-marks-then-len-at-ge8.ensures.common k h (ap (λ m. bit_at m k) w.if-marks-ne0-2.false ∙ bit_at-zero k)))
  | else-len-at-ge8 w ↦ subst (AreCommon c.args.left.now c.args.right.now) (sym w.at-is) c.runs.invariant.1
]
