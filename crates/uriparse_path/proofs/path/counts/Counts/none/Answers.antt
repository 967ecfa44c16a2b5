use Rattle.uriparse_path.proofs.lemmas.list.SegmentCountLemmas.{counts-nil}
use Rattle.uriparse_path.proofs.path.counts.Counts.none.Goals as goal

pub returns : goal.returns
returns c = counts-nil
