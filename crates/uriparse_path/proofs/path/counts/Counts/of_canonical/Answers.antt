use Rattle.uriparse_path.proofs.lemmas.list.SegmentCountLemmas.{counts-canonical}
use Rattle.uriparse_path.proofs.path.counts.Counts.of_canonical.Goals as goal

pub returns : goal.returns
returns c ss e h = counts-canonical c.args.self ss e h
