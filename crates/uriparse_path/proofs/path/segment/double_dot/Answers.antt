use Rattle.uriparse_text.proofs.lemmas.canonical.DotLemmas.{canonical-dots}
use Rattle.uriparse_path.proofs.lemmas.merge.LeadingPathLemmas.{dots_segment}
use Rattle.uriparse_path.proofs.path.segment.double_dot.Goals as goal

pub text_from_checked-requires : goal.text_from_checked-requires
text_from_checked-requires c = record { inside = dots_segment; canonical = λ _. canonical-dots }
