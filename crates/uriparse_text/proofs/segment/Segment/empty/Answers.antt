use Rattle.uriparse_text.proofs.lemmas.canonical.DotLemmas.{canonical-nil, empty_segment}
use Rattle.uriparse_text.proofs.segment.Segment.empty.Goals as goal

pub text_from_checked-requires : goal.text_from_checked-requires
text_from_checked-requires c = record { inside = empty_segment; canonical = λ _. canonical-nil }
