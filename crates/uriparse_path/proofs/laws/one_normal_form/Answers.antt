use Rattle.uriparse_path.proofs.lemmas.normal.NormalFormLemmas.{listed_pnormal, length_pnormal, pnormal_twice, normal_iff, normal_kept}
use Rattle.uriparse_path.proofs.laws.one_normal_form.Goals as goal

pub returns : goal.returns
returns c = record { listed = listed_pnormal; no_longer = length_pnormal; twice = pnormal_twice; text = normal_iff; kept = normal_kept }
