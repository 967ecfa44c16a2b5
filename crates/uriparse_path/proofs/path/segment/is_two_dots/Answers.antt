use Rattle.std.proofs.Common.{rules}
use Rattle.uriparse_path.proofs.lemmas.text.LastLemmas.{two_dots}
use Rattle.uriparse_path.proofs.path.segment.is_two_dots.Goals as goal

pub returns-in-46 : goal.returns-in-46
returns-in-46 c = λ _. two_dots c.args.segment.now (search rules) (search rules) (search rules)
