use Rattle.std.proofs.Common.{ap, ◌∙◌}
use Rattle.uriparse_path.specs.Path.{flag}
use Rattle.uriparse_path.specs.Dots.{all_but_last}
use Rattle.uriparse_path.specs.Relative.{filled}
use Rattle.uriparse_path.specs.Counts.{counts}
use Rattle.uriparse_path.proofs.lemmas.list.SegmentCountLemmas.{popped_kept}
use Rattle.uriparse_path.proofs.path.edit.Path.pop.Goals as goal

pub invariant_of-self : goal.invariant_of-self
invariant_of-self c =
    popped_kept c.self.inside.segments _ (flag c.self.inside.counts_known) c.self.inside.counts _ c.self.invariant c.take_last.ensures
    (λ h. c.popped_counts-counts.ensures h ∙ ap (λ l. counts (filled (all_but_last l))) c.as_slice.ensures)
