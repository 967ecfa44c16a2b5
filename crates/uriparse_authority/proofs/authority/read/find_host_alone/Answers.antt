use Rattle.uriparse_authority.proofs.lemmas.authorities.AuthorityLemmas.{host_alone}
use Rattle.uriparse_authority.proofs.authority.read.find_host_alone.Goals as goal

pub returns : goal.returns
returns c =
    rw (c.found_authority.ensures, c.no_text.ensures, c.no_text-2.ensures)
    (host_alone c.args.bytes.now c.find_name_host.result c.find_name_host.ensures)
