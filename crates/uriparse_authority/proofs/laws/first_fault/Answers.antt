use Rattle.uriparse_authority.proofs.lemmas.hosts.HostLemmas.{brackets_exactly}
use Rattle.uriparse_authority.proofs.lemmas.authorities.FaultLemmas.{host_supported, never_unsupported, never_colon}
use Rattle.uriparse_authority.proofs.lemmas.authorities.PortLemmas.{other_exactly, passes_exactly}
use Rattle.uriparse_authority.proofs.lemmas.authorities.AuthorityLemmas.{rest_answers}
use Rattle.uriparse_authority.proofs.lemmas.authorities.PieceLemmas.{front_answers}
use Rattle.uriparse_authority.proofs.laws.first_fault.Goals as goal

pub returns : goal.returns
returns c = record {
  brackets = brackets_exactly;
  other = other_exactly;
  passes = passes_exactly;
  front = front_answers;
  rest = rest_answers;
  unsupported_host = host_supported;
  unsupported = never_unsupported;
  colon = never_colon;
}
