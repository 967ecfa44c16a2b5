use Rattle.std.proofs.Common.{sym, ◌∙◌, arith}
use Rattle.uriparse_path.proofs.lemmas.left.RemovedLemmas.{double_before, other_before, single_before}
use Rattle.uriparse_path.proofs.path.within.waiting_before.Goals as goal

pub returns-then-is_single_dot_segment-clause-before : goal.returns-then-is_single_dot_segment-clause-before
returns-then-is_single_dot_segment-clause-before c = λ l w.
    single_before c.args.segment.now l c.args.waiting c.as_bytes-bytes.ensures.class w (sym c.is_single_dot_segment.ensures ∙ c.if-is_single_dot_segment.true)

pub returns-then-is_double_dot_segment-clause-before : goal.returns-then-is_double_dot_segment-clause-before
returns-then-is_double_dot_segment-clause-before c = λ l w.
    double_before c.args.segment.now l c.args.waiting c.as_bytes-bytes.ensures.class w (sym c.is_single_dot_segment.ensures ∙ c.if-is_single_dot_segment.false)
    (sym c.is_double_dot_segment.ensures ∙ c.if-is_double_dot_segment.true)

pub returns-else-is_double_dot_segment-clause-before : goal.returns-else-is_double_dot_segment-clause-before
returns-else-is_double_dot_segment-clause-before c = λ l w.
    other_before c.args.segment.now l c.args.waiting _ c.as_bytes-bytes.ensures.class w (sym c.is_single_dot_segment.ensures ∙ c.if-is_single_dot_segment.false)
    (sym c.is_double_dot_segment.ensures ∙ c.if-is_double_dot_segment.false) (λ none. omega (arith, none, c.saturating_sub.ensures))
    (λ some. omega (arith, some, c.saturating_sub.ensures))
