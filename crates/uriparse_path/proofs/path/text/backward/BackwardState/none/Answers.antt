use Rattle.std.proofs.Common.{refl}
use Rattle.uriparse_path.proofs.lemmas.left.BackwardLemmas.{none_left}
use Rattle.uriparse_path.proofs.path.text.backward.BackwardState.none.Goals as goal

pub returns-clause-is : goal.returns-clause-is
returns-clause-is c = λ form ended buffer t ends. record {
  double_dots = refl;
  removed = refl;
  kept = refl;
  colon = refl;
  placed = none_left form ended buffer t c.empty.result c.args.len c.empty.ensures ends;
}
