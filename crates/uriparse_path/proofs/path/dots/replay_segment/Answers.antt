use Rattle.std.proofs.Common.{◌≡◌, arith, sym, ap, ◌∙◌, take, ◌||◌}
use Rattle.uriparse_path.specs.Dots as spec
use Rattle.uriparse_path.proofs.lemmas.dots.ReplayInPlaceLemmas.{same_read, is_one-take, double_skipped, double_rooted, double_last, other_replayed, other_rooted}
use Rattle.uriparse_path.proofs.path.dots.replay_segment.Goals.{then-rooted, else-rooted}
use Rattle.uriparse_path.proofs.path.dots.replay_segment.Goals as goal

pub returns-then-not-is_last-2-clause-segments : goal.returns-then-not-is_last-2-clause-segments
returns-then-not-is_last-2-clause-segments c =
    rw c.saturating_sub-kept.ensures (double_skipped c.args.segments.now c.args.kept c.args.at c.index-segments-at-2.result c.requires.order (omega arith)
    c.index-segments-at-2.is (ap spec.is_double_dot c.index-segments-at-2.is ∙ sym c.is_double_dot_segment.ensures ∙ c.if-is_double_dot_segment.true) (omega arith))

pub returns-then-not-is_last-2-clause-root : goal.returns-then-not-is_last-2-clause-root
returns-then-not-is_last-2-clause-root c =
    let now : c.if-rooted.rooted ≡ (c.args.rooted || spec.is_one (take c.args.kept c.args.segments.now)) =
    elim c.if-rooted.branch [
      | then-rooted w ↦ w.rooted-is ∙ w.if-rooted.true
          ∙ sym (ap (λ v. v || spec.is_one (take c.args.kept c.args.segments.now)) w.if-rooted.true)
      | else-rooted w ↦ w.rooted-is
          ∙ sym (ap (λ v. v || spec.is_one (take c.args.kept c.args.segments.now)) w.if-rooted.false
          ∙ is_one-take c.args.segments.now c.args.kept (omega arith))
    ] in
    rw c.saturating_sub-kept.ensures (double_rooted c.args.segments.now c.args.kept c.args.at c.index-segments-at-2.result c.requires.order (omega arith)
    c.index-segments-at-2.is c.args.rooted c.if-rooted.rooted (ap spec.is_double_dot c.index-segments-at-2.is ∙ sym c.is_double_dot_segment.ensures ∙ c.if-is_double_dot_segment.true) now)

pub returns-then-is_double_dot_segment-clause-segments :
    goal.returns-then-is_double_dot_segment-clause-segments
returns-then-is_double_dot_segment-clause-segments c =
    rw (c.saturating_sub-kept.ensures, c.empty-then-is_double_dot_segment.ensures)
    (double_last c.args.segments.now c.args.kept c.args.at c.index-segments-at-2.result c.requires.order (omega arith) c.index-segments-at-2.is
    (ap spec.is_double_dot c.index-segments-at-2.is ∙ sym c.is_double_dot_segment.ensures ∙ c.if-is_double_dot_segment.true) (omega arith))

pub returns-clause-segments : goal.returns-clause-segments
returns-clause-segments c =
    rw c.swap.ensures.after (other_replayed c.args.segments.now c.args.kept c.args.at c.index-segments-at-2.result c.requires.order (omega arith)
    c.index-segments-at-2.is (sym (c.is_single_dot_segment.ensures ∙ ap spec.is_single_dot (sym c.index-segments-at.is)
    ∙ ap spec.is_single_dot (same_read c.args.segments.now c.args.at c.index-segments-at.result c.index-segments-at-2.result (omega arith) c.index-segments-at.is
    c.index-segments-at-2.is)) ∙ c.if-is_single_dot_segment.false) (ap spec.is_double_dot c.index-segments-at-2.is ∙ sym c.is_double_dot_segment.ensures ∙ c.if-is_double_dot_segment.false))

pub returns-clause-root : goal.returns-clause-root
returns-clause-root c =
    rw c.swap.ensures.after (other_rooted c.args.segments.now c.args.kept c.args.at c.index-segments-at-2.result c.requires.order (omega arith)
    c.index-segments-at-2.is c.args.rooted (sym (c.is_single_dot_segment.ensures ∙ ap spec.is_single_dot (sym c.index-segments-at.is)
    ∙ ap spec.is_single_dot (same_read c.args.segments.now c.args.at c.index-segments-at.result c.index-segments-at-2.result (omega arith) c.index-segments-at.is
    c.index-segments-at-2.is)) ∙ c.if-is_single_dot_segment.false) (ap spec.is_double_dot c.index-segments-at-2.is ∙ sym c.is_double_dot_segment.ensures ∙ c.if-is_double_dot_segment.false))
