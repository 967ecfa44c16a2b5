use Rattle.std.proofs.Common.{◌≡◌, ◌≤◌, drop}
use Rattle.std.specs.Str.Parse.{digits_value, digits_value_after}
use Rattle.uriparse_authority.specs.Port.{largest, fault}
use Rattle.uriparse_authority.proofs.lemmas.authorities.PortLemmas.{fault_after}
use Rattle.uriparse_authority.proofs.authority.port.parse_port.Given as goal

abbrev pub invariant-loop-b : goal.invariant-loop-b
invariant-loop-b l = record {
  in_range : l.number ≤ largest;
  fault : fault_after l.number (drop l.b-index l.bytes) ≡ fault l.bytes;
  value : digits_value_after 10 l.number (drop l.b-index l.bytes) ≡ digits_value 10 l.bytes;
}
