use Rattle.std.proofs.Common.{Ok, sym, ap, ◌∙◌}
use Rattle.uriparse_authority.proofs.lemmas.hosts.FutureLemmas.{future_again, future_found}
use Rattle.uriparse_authority.proofs.lemmas.hosts.HostLemmas.{host_exact, names_exactly}
use Rattle.uriparse_authority.proofs.lemmas.authorities.PortLemmas.{port_exact}
use Rattle.uriparse_authority.proofs.lemmas.authorities.AuthorityLemmas.{exact, whole_exact, one_reading, none_exactly, valid}
use Rattle.uriparse_authority.proofs.laws.one_reading.Goals as goal

pub returns : goal.returns
returns c = record {
  hosts = λ t h. (host_exact.found t h, host_exact.again t h);
  names = names_exactly;
  futures = λ t f. (future_found t f, λ s. future_again t s.1 ∙ ap Ok (sym s.0));
  ports = λ t n. (port_exact.found t n, port_exact.again t n);
  reads = λ a p. (exact.found a p, exact.again a p);
  whole = λ t p. (whole_exact.found t p, whole_exact.again t p);
  one = one_reading;
  none = none_exactly;
  valid = valid;
}
