use Rattle.std.proofs.lemmas.Bool.{false≢true}
use Rattle.uriparse_path.proofs.path.segment.segment_from_checked.Goals as goal

pub text_from_checked-requires : goal.text_from_checked-requires
text_from_checked-requires c = record { inside = c.requires; canonical = λ h. absurd (false≢true h) }
