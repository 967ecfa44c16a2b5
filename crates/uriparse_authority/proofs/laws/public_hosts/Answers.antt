use Rattle.uriparse_authority.proofs.lemmas.hosts.PublicLemmas.{address_exact, public_address, public_back, public_equals, public_name, public_normal}
use Rattle.uriparse_authority.proofs.laws.public_hosts.Goals as goal

pub returns : goal.returns
returns c = record {
  is_address = address_exact;
  address = public_address;
  name = public_name;
  later_version = λ f p. p;
  equals = public_equals;
  normal = public_normal;
  back = public_back;
}
