use Rattle.uriparse_path.proofs.lemmas.normal.NormalFormLemmas.{pnormal_spelled, pnormal_absolute, pnormal_rooted, pnormal_rootless, pnormal_colon}
use Rattle.uriparse_path.proofs.laws.normal_form_in_place.Goals as goal

pub returns : goal.returns
returns c = record { spelled = pnormal_spelled; absolute = pnormal_absolute; rooted = pnormal_rooted; rootless = pnormal_rootless; colon = pnormal_colon }
