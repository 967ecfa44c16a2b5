use Rattle.uriparse_authority.proofs.lemmas.hosts.HostLemmas.{same_host, fed_host}
use Rattle.uriparse_authority.proofs.lemmas.authorities.AuthorityLemmas.{same_key, fed_parts}
use Rattle.uriparse_authority.proofs.laws.one_key.Goals as goal

pub returns : goal.returns
returns c = record { hosts = same_host; authorities = same_key; hosts_fed = fed_host; authorities_fed = fed_parts }
