use Rattle.std.proofs.Common.{refl}
use Rattle.uriparse_scheme.specs.SchemeTable.{row_of}
use Rattle.uriparse_scheme.proofs.scheme.split.split_scheme.Goals as goal

pub returns-in-104-clause-known : goal.returns-in-104-clause-known
unfolding row_of
returns-in-104-clause-known c = refl

pub returns-in-104-2-clause-known : goal.returns-in-104-2-clause-known
unfolding row_of
returns-in-104-2-clause-known c = refl
