use Rattle.std.proofs.Common.{ap}
use Rattle.uriparse_scheme.specs.SchemeTable.{Row}
use Rattle.uriparse_scheme.proofs.lemmas.table.TableLemmas.{name_is_scheme}
use Rattle.uriparse_scheme.proofs.scheme.registered.RegisteredScheme.name.Goals as goal

pub returns-clause-value : goal.returns-clause-value
returns-clause-value c = ap (λ (r : Row). r.name) c.row_of.ensures

pub returns-clause-grammar : goal.returns-clause-grammar
returns-clause-grammar c = name_is_scheme c.args.self
