use Rattle.std.proofs.Common.{arith}
use Rattle.uriparse_path.proofs.lemmas.text.DotCandidateLemmas.{lacks_last}
use Rattle.uriparse_path.proofs.path.text.last.last_dots_by_runs.Goals as goal

pub runs-init : goal.runs-init
runs-init c = record { some = omega (arith, c.requires.long); within = omega arith; later = lacks_last c.args.text.now }
