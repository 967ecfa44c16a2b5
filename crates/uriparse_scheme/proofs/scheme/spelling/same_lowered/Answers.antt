use Rattle.uriparse_scheme.proofs.lemmas.schemes.GrammarLemmas.{same_from_lowered}
use Rattle.uriparse_scheme.proofs.scheme.spelling.same_lowered.Goals as goal

pub returns : goal.returns
returns c =
    same_from_lowered c.args.left.now c.args.right.now c.eq_ignore_ascii_case.result c.requires.left c.requires.right
    c.eq_ignore_ascii_case.ensures.test
