use Rattle.std.proofs.Common.{arith}
use Rattle.uriparse_authority.proofs.lemmas.hosts.WithinLemmas.{count-nil, count-step, count-step-dot}
use Rattle.uriparse_authority.proofs.authority.within.dot_count.Goals as goal

pub octets-preserved : goal.octets-preserved
octets-preserved c =
    (omega (arith, c.octets.invariant.0, c.in-Some.ensures.shorter), count-step c.in-Some.octet _ _ c.in-Some.ensures.cut c.if-octet-eq46.false _ _ c.octets.invariant.1)

pub octets-preserved-then-octet-eq46 : goal.octets-preserved-then-octet-eq46
octets-preserved-then-octet-eq46 c = (
  omega (arith, c.octets.invariant.0, c.in-Some.ensures.shorter),
  count-step-dot c.in-Some.octet _ _ c.in-Some.ensures.cut c.if-octet-eq46.true _ _ c.octets.invariant.1,
)

pub returns : goal.returns
returns c = let none = count-nil c.octets.rest.now c.in_default.ensures.cut in omega (arith, none, c.octets.invariant.1)
