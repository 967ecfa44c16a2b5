use Rattle.std.proofs.Common.{◌≡◌, None, rules}
use Rattle.uriparse_authority.specs.Future.{fault}
use Rattle.uriparse_authority.proofs.lemmas.hosts.FutureLemmas.{fault_none}
use Rattle.uriparse_authority.proofs.authority.future.IPvFuture.try_from_bytes.Goals as goal

pub of_checked-requires : goal.of_checked-requires
of_checked-requires c =
    let clean : fault c.args.bytes.now ≡ None = search rules in
    fault_none c.args.bytes.now clean
