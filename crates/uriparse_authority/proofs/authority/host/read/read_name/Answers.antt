use Rattle.std.proofs.Common.{sym}
use Rattle.uriparse_authority.proofs.lemmas.hosts.HostLemmas.{name_read}
use Rattle.uriparse_authority.proofs.authority.host.read.read_name.Goals as goal

pub returns-in-Ok : goal.returns-in-Ok
returns-in-Ok c = sym (name_read c.args.bytes.now c.find_name_host.result c.in-Ok.ensures.0 c.find_name_host.ensures)
