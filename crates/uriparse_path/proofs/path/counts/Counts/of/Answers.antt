use Rattle.uriparse_path.proofs.lemmas.list.SegmentCountLemmas.{canonical_at}
use Rattle.uriparse_path.proofs.path.counts.Counts.of.Goals as goal

pub add-requires-clause-canonical : goal.add-requires-clause-canonical
add-requires-clause-canonical c =
    canonical_at c.args.segments.now c.loop-at.at c.index-segments-at.result c.loop-at-test.true c.index-segments-at.is c.requires.canonical
