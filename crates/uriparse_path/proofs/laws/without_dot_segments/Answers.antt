use Rattle.uriparse_path.proofs.lemmas.normal.NormalFormLemmas.{listed_without_dots, no_dots_left, length_without_dots}
use Rattle.uriparse_path.proofs.laws.without_dot_segments.Goals as goal

pub returns : goal.returns
returns c = record { listed = listed_without_dots; none = no_dots_left; no_longer = length_without_dots }
