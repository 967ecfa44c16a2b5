use Rattle.uriparse_authority.proofs.lemmas.hosts.HostLemmas.{host_back, spelled_back}
use Rattle.uriparse_authority.proofs.lemmas.authorities.PortLemmas.{port_printed}
use Rattle.uriparse_authority.proofs.lemmas.authorities.AuthorityLemmas.{back}
use Rattle.uriparse_authority.proofs.lemmas.authorities.PrintedLemmas.{spelled_reads_back, plain_back, hosts_apart, printed_apart}
use Rattle.uriparse_authority.proofs.laws.reading_back.Goals as goal

pub returns : goal.returns
returns c = record {
  host_spelled = spelled_back;
  host = host_back;
  port = port_printed;
  spelled = spelled_reads_back;
  back = back;
  plain = plain_back;
  hosts = hosts_apart;
  one = printed_apart;
}
