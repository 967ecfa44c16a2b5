use Rattle.uriparse_reference.proofs.lemmas.normalizing.NormalFormLemmas.{normal_valid, normal_twice, normal_no_longer, normal_kind}
use Rattle.uriparse_reference.proofs.lemmas.normalizing.NormalizingLemmas.{normal_exactly, kept_whole}
use Rattle.uriparse_reference.proofs.laws.one_normal_form.Goals as goal

pub returns : goal.returns
returns c = record { valid = normal_valid; twice = normal_twice; print = normal_exactly; no_longer = normal_no_longer; kinds = normal_kind; kept = kept_whole }
