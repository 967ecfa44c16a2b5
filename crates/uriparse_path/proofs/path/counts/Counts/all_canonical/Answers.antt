use Rattle.uriparse_path.proofs.lemmas.list.SegmentCountLemmas.{canonical_told}
use Rattle.uriparse_path.proofs.path.counts.Counts.all_canonical.Goals as goal

pub returns : goal.returns
returns c ss e = canonical_told c.args.self ss e
