use Rattle.std.proofs.Common.{length}
use Rattle.uriparse_path.proofs.lemmas.reading.OffsetLemmas.{IsReached}
use Rattle.uriparse_path.proofs.path.offset.offset_by_one.Given as goal

abbrev pub invariant-bytes : goal.invariant-bytes
invariant-bytes l = IsReached l.slashes l.text l.left l.rest

abbrev pub decreases-bytes : goal.decreases-bytes
decreases-bytes l = length l.rest
