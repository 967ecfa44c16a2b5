use Rattle.uriparse_text.proofs.lemmas.canonical.DotLemmas.{canonical-dot}
use Rattle.uriparse_path.proofs.lemmas.normal.RelativeFormLemmas.{dot_segment}
use Rattle.uriparse_path.proofs.path.segment.single_dot.Goals as goal

pub text_from_checked-requires : goal.text_from_checked-requires
text_from_checked-requires c = record { inside = dot_segment; canonical = λ _. canonical-dot }
