use Rattle.uriparse_scheme.proofs.lemmas.schemes.NormalLemmas.{text-canonical, valid_canonical, canonical_twice, canonical_kept}
use Rattle.uriparse_scheme.proofs.laws.one_normal_form.Goals as goal

pub returns : goal.returns
returns c = record { valid = valid_canonical; twice = canonical_twice; text = text-canonical; kept = canonical_kept }
