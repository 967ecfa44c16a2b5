use Rattle.uriparse_path.proofs.lemmas.normal.SpellingCommutesLemmas.{undot-canonical, pnormal-canonical}
use Rattle.uriparse_path.proofs.laws.spelling_before_or_after.Goals as goal

pub returns : goal.returns
returns c = record { dots = undot-canonical; normal = pnormal-canonical }
