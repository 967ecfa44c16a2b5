use Rattle.uriparse_reference.proofs.lemmas.edits.PortLemmas.{valid_without, port_without, without_twice}
use Rattle.uriparse_reference.proofs.laws.one_default_port.Goals as goal

pub returns : goal.returns
returns c = record { valid = valid_without; port = port_without; twice = without_twice }
