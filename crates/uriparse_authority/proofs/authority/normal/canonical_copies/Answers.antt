use Rattle.std.proofs.Common.{ap}
use Rattle.uriparse_authority.specs.Host.{text}
use Rattle.uriparse_authority.proofs.lemmas.authorities.NormalLemmas.{kept_inside}
use Rattle.uriparse_authority.proofs.authority.normal.canonical_copies.Goals as goal

pub returns-in_err-canonical_copy-clause-takes_no_memory : goal.returns-in_err-canonical_copy-clause-takes_no_memory
returns-in_err-canonical_copy-clause-takes_no_memory c same =
    let kept = kept_inside _ _ c.authority.view_is c.authority.invariant same in
    absurd (cc (c.in_err-canonical_copy.ensures.takes_no_memory (ap (λ p. p.username) kept)))

pub returns-in_err-canonical_copy-2-clause-takes_no_memory : goal.returns-in_err-canonical_copy-2-clause-takes_no_memory
returns-in_err-canonical_copy-2-clause-takes_no_memory c same =
    let kept = kept_inside _ _ c.authority.view_is c.authority.invariant same in
    absurd (cc (c.in_err-canonical_copy-2.ensures.takes_no_memory (ap (λ p. p.password) kept)))

pub returns-in_err-canonical_copy-3-clause-takes_no_memory : goal.returns-in_err-canonical_copy-3-clause-takes_no_memory
returns-in_err-canonical_copy-3-clause-takes_no_memory c same =
    let kept = kept_inside _ _ c.authority.view_is c.authority.invariant same in
    absurd (cc (c.in_err-canonical_copy-3.ensures.takes_no_memory (ap (λ p. text p.host) kept)))
