use Rattle.std.proofs.Common.{◌≡◌, arith, sym, ap, ◌∙◌, ◌&&◌, not, take, false}
use Rattle.uriparse_path.specs.Dots.{is_single_dot, is_double_dot, is_dot_segment}
use Rattle.uriparse_path.specs.Relative.{is_last}
use Rattle.uriparse_path.proofs.lemmas.dots.ReplayInPlaceLemmas.{same_read}
use Rattle.uriparse_path.proofs.lemmas.normal.DeletionInPlaceLemmas.{pair_put, other_put}
use Rattle.uriparse_path.proofs.path.reduce.put_segment.Goals.{then-double_dots+else-is_pair, else-double_dots}
use Rattle.uriparse_path.proofs.path.reduce.put_segment.Goals as goal

pub returns-then-is_pair-clause-put : goal.returns-then-is_pair-clause-put
returns-then-is_pair-clause-put c =
    pair_put c.args.segments.now c.args.kept c.args.at c.index-segments-at-2.result c.requires.order (omega arith) c.index-segments-at-2.is
    (ap is_double_dot c.index-segments-at-2.is ∙ sym c.is_double_dot_segment-double_dots.ensures ∙ c.if-double_dots.true)
    (sym c.ends_in_name-is_pair.ensures ∙ c.if-is_pair.true)

pub returns-clause-put : goal.returns-clause-put
returns-clause-put c =
    let apart : (is_double_dot c.index-segments-at-2.result && is_last (λ s. not (is_dot_segment s)) (take c.args.kept c.args.segments.now)) ≡ false =
    elim c.if-double_dots.branch [
      | then-double_dots+else-is_pair w ↦ ap (λ v. v && is_last (λ s. not (is_dot_segment s)) (take c.args.kept c.args.segments.now))
          (ap is_double_dot c.index-segments-at-2.is ∙ sym c.is_double_dot_segment-double_dots.ensures ∙ w.if-double_dots.true)
          ∙ sym w.ends_in_name-is_pair.ensures ∙ w.if-is_pair.false
      | else-double_dots w ↦ ap (λ v. v && is_last (λ s. not (is_dot_segment s)) (take c.args.kept c.args.segments.now))
          (ap is_double_dot c.index-segments-at-2.is ∙ sym c.is_double_dot_segment-double_dots.ensures ∙ w.if-double_dots.false)
    ] in
    rw c.swap.ensures.after (other_put c.args.segments.now c.args.kept c.args.at c.index-segments-at-2.result c.requires.order (omega arith) c.index-segments-at-2.is
    (sym (c.is_single_dot_segment.ensures ∙ ap is_single_dot (sym c.index-segments-at.is)
    ∙ ap is_single_dot (same_read c.args.segments.now c.args.at c.index-segments-at.result c.index-segments-at-2.result (omega arith) c.index-segments-at.is
    c.index-segments-at-2.is)) ∙ c.if-is_single_dot_segment.false)
    apart)
