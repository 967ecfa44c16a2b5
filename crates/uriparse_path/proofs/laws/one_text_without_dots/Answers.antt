use Rattle.uriparse_path.proofs.lemmas.dots.RewritingStepLemmas.{one_step}
use Rattle.uriparse_path.proofs.lemmas.dots.ReplayLemmas.{undots_iff, once_rooted}
use Rattle.uriparse_path.proofs.lemmas.normal.NormalFormLemmas.{undot_path, undot_kept}
use Rattle.uriparse_path.proofs.laws.one_text_without_dots.Goals as goal

pub returns : goal.returns
returns c = record { step = one_step; text = undots_iff; path = undot_path; kept = undot_kept; root = once_rooted }
