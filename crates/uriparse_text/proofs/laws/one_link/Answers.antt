use Rattle.uriparse_text.proofs.lemmas.readings.LinkLemmas.{link-link, link-plain, trimmed-link}
use Rattle.uriparse_text.proofs.laws.one_link.Goals as goal

pub returns : goal.returns
returns c = record { kept = link-plain; trimmed = trimmed-link; twice = link-link }
