use Rattle.std.proofs.Common.{sym, subst}
use Rattle.uriparse_authority.specs.Future.{IsFuture}
use Rattle.uriparse_authority.proofs.lemmas.hosts.FutureLemmas.{IsFuture-canonical_lowered}
use Rattle.uriparse_authority.proofs.authority.future.IPvFuture.to_normalized.Goals as goal

pub invariant_of-result : goal.invariant_of-result
invariant_of-result c = subst IsFuture (sym c.in_ok-normalized_text.ensures) (IsFuture-canonical_lowered _ c.self.invariant)
