use Rattle.std.proofs.Common.{◌∙◌, arith}
use Rattle.uriparse_authority.proofs.lemmas.hosts.WithinLemmas.{count-dot, count-nil, count-other, is_46, is_not_46, skip-dot, skip-other}
use Rattle.uriparse_authority.proofs.authority.within.skip_labels.Goals as goal

pub octets-preserved : goal.octets-preserved
octets-preserved c =
    let other = is_not_46 c.in-Some.octet _ _ c.in-Some.ensures.cut c.if-octet-eq46.false in
    let same = count-other c.in-Some.octet _ _ c.in-Some.ensures.cut other in (
      skip-other c.in-Some.octet _ _ c.in-Some.ensures.cut c.octets.left (omega (arith, c.octets-test.true)) other ∙ c.octets.invariant.0,
      omega (arith, same, c.octets.invariant.1),
      c.in-Some.ensures.formed c.octets.invariant.2,
    )

pub octets-preserved-then-octet-eq46 : goal.octets-preserved-then-octet-eq46
octets-preserved-then-octet-eq46 c =
    let is = is_46 c.in-Some.octet _ _ c.in-Some.ensures.cut c.if-octet-eq46.true in
    let more = count-dot c.in-Some.octet _ _ c.in-Some.ensures.cut is in (
      skip-dot c.in-Some.octet _ _ c.in-Some.ensures.cut c.octets.left (omega (arith, c.octets-test.true)) is ∙ c.octets.invariant.0,
      omega (arith, more, c.octets.invariant.1),
      c.in-Some.ensures.formed c.octets.invariant.2,
    )

pub returns-in_default-clause-left : goal.returns-in_default-clause-left
returns-in_default-clause-left c =
    let none = count-nil c.octets.rest.now c.in_default.ensures.cut in
    absurd (omega (arith, none, c.octets.invariant.1, c.octets-test.true))
