use Rattle.std.proofs.Common.{◌∙◌}
use Rattle.uriparse_path.proofs.lemmas.list.SegmentCountLemmas.{counts_plain}
use Rattle.uriparse_path.proofs.path.counts.Counts.add.Goals as goal

pub returns-else-begins_with_dot : goal.returns-else-begins_with_dot
returns-else-begins_with_dot c =
    c.requires.counted
    ∙ counts_plain c.args.segments.now c.args.last.now (c.begins_with_dot.ensures c.if-begins_with_dot.false c.requires.canonical) c.requires.canonical
