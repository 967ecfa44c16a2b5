use Rattle.uriparse_scheme.proofs.lemmas.schemes.GrammarLemmas.{well_formed-scheme}
use Rattle.uriparse_scheme.proofs.scheme.order.compare_lowered.Goals as goal

pub compare_spelling-requires-clause-left : goal.compare_spelling-requires-clause-left
compare_spelling-requires-clause-left c = well_formed-scheme c.args.left.now c.requires.left

pub compare_spelling-requires-clause-right : goal.compare_spelling-requires-clause-right
compare_spelling-requires-clause-right c = well_formed-scheme c.args.right.now c.requires.right

pub returns : goal.returns
returns c = c.compare_spelling.ensures
