use Rattle.uriparse_authority.proofs.lemmas.hosts.FutureLemmas.{kept_or_lowered}
use Rattle.uriparse_authority.proofs.authority.future.IPvFuture.normalize.Goals as goal

pub invariant_of-self : goal.invariant_of-self
invariant_of-self c = kept_or_lowered _ _ c.normalize.result c.self.invariant c.normalize.ensures.ok c.normalize.ensures.err
