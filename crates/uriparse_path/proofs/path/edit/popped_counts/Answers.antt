use Rattle.std.proofs.Common.{◌∙◌}
use Rattle.uriparse_path.specs.Dots.{all_but_last}
use Rattle.uriparse_path.proofs.lemmas.list.SegmentCountLemmas.{counts_filled}
use Rattle.uriparse_path.proofs.path.edit.popped_counts.Goals as goal

pub returns-then-counts_known : goal.returns-then-counts_known
returns-then-counts_known c h = c.without_last.ensures ∙ counts_filled (all_but_last c.args.segments.now)
