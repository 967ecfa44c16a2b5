use Rattle.std.proofs.Common.{refl}
use Rattle.uriparse_scheme.specs.SchemeTable.{variants}
use Rattle.uriparse_scheme.proofs.scheme.find.all_schemes.Goals as goal

pub returns : goal.returns
unfolding variants
returns c = refl
