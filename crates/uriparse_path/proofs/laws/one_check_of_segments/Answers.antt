use Rattle.uriparse_path.proofs.lemmas.dots.AmbiguousSegmentLemmas.{ambiguous-canonical}
use Rattle.uriparse_path.proofs.lemmas.left.RemovedLemmas.{none_removed}
use Rattle.uriparse_path.proofs.laws.one_check_of_segments.Goals as goal

pub returns : goal.returns
returns c = record { spelled = ambiguous-canonical; kept = none_removed }
