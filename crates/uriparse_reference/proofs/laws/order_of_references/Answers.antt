use Rattle.uriparse_reference.specs.Order.{parts_total}
use Rattle.uriparse_reference.proofs.lemmas.equality.OrderLemmas.{order_same}
use Rattle.uriparse_reference.proofs.laws.order_of_references.Goals as goal

pub returns : goal.returns
returns c = record { total = parts_total; same = order_same }
