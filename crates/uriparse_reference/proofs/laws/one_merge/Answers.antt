use Rattle.std.proofs.Common.{refl}
use Rattle.uriparse_reference.proofs.lemmas.resolving.ValidTargetLemmas.{merge_text, merge_path}
use Rattle.uriparse_reference.proofs.laws.one_merge.Goals as goal

pub returns : goal.returns
returns c = record { text = merge_text; path = merge_path; row = refl }
