use Rattle.std.proofs.Common.{sym, ap}
use Rattle.uriparse_text.specs.Readings.{fault_in, unless_fault}
use Rattle.uriparse_reference.proofs.uri_reference.URIReference.check.Goals as goal

pub returns-in-Ok : goal.returns-in-Ok
returns-in-Ok c = ap (λ r. unless_fault (fault_in r) tt) (sym c.in-Ok.ensures.is_read)

pub returns-in-Err : goal.returns-in-Err
returns-in-Err c = ap (λ r. unless_fault (fault_in r) tt) (sym c.in-Err.ensures)
