use Rattle.std.proofs.Common.{◌≡◌, None, rules}
use Rattle.uriparse_authority.specs.Future.{fault}
use Rattle.uriparse_authority.proofs.lemmas.hosts.FutureLemmas.{fault_none}
use Rattle.uriparse_authority.proofs.authority.host.read.read_future.Goals as goal

pub found_future-requires : goal.found_future-requires
found_future-requires c =
    let clean : fault c.args.bytes.now ≡ None = search rules in
    fault_none c.args.bytes.now clean
