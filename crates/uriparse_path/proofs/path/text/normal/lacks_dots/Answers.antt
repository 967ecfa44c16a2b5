use Rattle.uriparse_path.proofs.lemmas.text.LastLemmas.{none_last}
use Rattle.uriparse_path.proofs.path.text.normal.lacks_dots.Goals as goal

pub returns : goal.returns
returns c = none_last c.args.text.now c.last_dots.result c.is_none.result c.last_dots.ensures c.is_none.ensures
