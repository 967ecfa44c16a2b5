use Rattle.uriparse_path.proofs.lemmas.merge.LeadingPathLemmas.{leads_there, fewest}
use Rattle.uriparse_path.proofs.laws.fewest_double_dots.Goals as goal

pub returns-clause-leads : goal.returns-clause-leads
returns-clause-leads c = leads_there

pub returns-clause-fewest : goal.returns-clause-fewest
returns-clause-fewest c = fewest
