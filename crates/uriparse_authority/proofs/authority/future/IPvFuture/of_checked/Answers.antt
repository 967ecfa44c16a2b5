use Rattle.uriparse_authority.proofs.lemmas.hosts.FutureLemmas.{IsFuture-in_class}
use Rattle.uriparse_authority.proofs.authority.future.IPvFuture.of_checked.Goals as goal

pub checked_text-requires : goal.checked_text-requires
checked_text-requires c = IsFuture-in_class c.args.bytes.now c.requires
