use Rattle.std.proofs.lemmas.Bool.{false≢true}
use Rattle.uriparse_path.proofs.lemmas.left.PathWithinLemmas.{differ, equal_pushed, last_pushed, same_text}
use Rattle.uriparse_path.proofs.path.within.are_equal.Goals as goal

pub returns-then-ne : goal.returns-then-ne
returns-then-ne g c = (
  λ h. absurd (false≢true h),
  λ h. absurd (differ c.in-Some.last c.in-Some-split_last.other_last c.ne.result c.ne.ensures c.if-ne.true
      (last_pushed _ _ _ _ c.in-Some.last c.in-Some-split_last.other_last c.in-Some.ensures.cut c.in-Some-split_last.ensures.cut (c.segments.invariant.0.1 h))),
)

pub segments-preserved : goal.segments-preserved
segments-preserved g c =
    let step = equal_pushed _ _ _ _ c.in-Some.last c.in-Some-split_last.other_last c.in-Some.ensures.cut c.in-Some-split_last.ensures.cut
    (same_text c.in-Some.last c.in-Some-split_last.other_last c.ne.result c.ne.ensures c.if-ne.false) in
    ((λ h. c.segments.invariant.0.0 (step.0 h), λ h. step.1 (c.segments.invariant.0.1 h)), c.in-Some.ensures.few, c.in-Some-split_last.ensures.few)
