use Rattle.std.proofs.Common.{◌≡◌, sym, ap, ◌∙◌, subst}
use Rattle.std.proofs.lemmas.Bool.{false≢true}
use Rattle.uriparse_authority.specs.Host.{text}
use Rattle.uriparse_authority.specs.Authority.{print}
use Rattle.uriparse_authority.specs.Normal.{canonical_authority}
use Rattle.uriparse_authority.proofs.lemmas.authorities.NormalLemmas.{canonical_of_parts, canonical_part, kept_inside}
use Rattle.uriparse_authority.proofs.authority.Authority.is_normalized.Goals as goal
use Rattle.uriparse_authority.proofs.authority.Authority.is_normalized.Goals.{then-is_canonical_part, else-is_canonical_part}

pub returns-then-is_canonical_part-2-clause-text : goal.returns-then-is_canonical_part-2-clause-text
returns-then-is_canonical_part-2-clause-text c =
    elim c.if-is_canonical_part.branch [
      | then-is_canonical_part w ↦ (
        λ yes.
            let username = (canonical_part _ _ c.is_canonical_part.ensures).0 w.if-is_canonical_part.true in
            let password = (canonical_part _ _ w.is_canonical_part-then-is_canonical_part.ensures).0 (sym w.value-is ∙ c.if-is_canonical_part-2.true) in
            let kept = canonical_of_parts _ username password (c.is_normalized.ensures.0 yes) in
            subst (λ p. print (canonical_authority p) ≡ print p) c.self.view_is (ap print kept),
        λ same. c.is_normalized.ensures.1 (ap (λ p. text p.host) (kept_inside _ _ c.self.view_is c.self.invariant same)),
      )
      | else-is_canonical_part w ↦ absurd (false≢true (sym w.if-is_canonical_part.false ∙ sym w.value-is ∙ c.if-is_canonical_part-2.true))
    ]

pub returns-else-is_canonical_part-2-clause-text : goal.returns-else-is_canonical_part-2-clause-text
returns-else-is_canonical_part-2-clause-text c =
    let no = sym c.if-is_canonical_part-2.false in
    elim c.if-is_canonical_part.branch [
      | then-is_canonical_part w ↦ (
        λ yes. absurd (false≢true (no ∙ yes)),
        λ same. absurd (false≢true (no ∙ w.value-is ∙ (canonical_part _ _ w.is_canonical_part-then-is_canonical_part.ensures).1
            (ap (λ p. p.password) (kept_inside _ _ c.self.view_is c.self.invariant same)))),
      )
      | else-is_canonical_part w ↦ (
        λ yes. absurd (false≢true (no ∙ yes)),
        λ same. absurd (false≢true (sym w.if-is_canonical_part.false
            ∙ (canonical_part _ _ c.is_canonical_part.ensures).1 (ap (λ p. p.username) (kept_inside _ _ c.self.view_is c.self.invariant same)))),
      )
    ]

pub returns-then-is_canonical_part-2-clause-form : goal.returns-then-is_canonical_part-2-clause-form
returns-then-is_canonical_part-2-clause-form c is =
    elim c.if-is_canonical_part.branch [
      | then-is_canonical_part w ↦ (
          let username = (canonical_part _ _ c.is_canonical_part.ensures).0 w.if-is_canonical_part.true in
          let password = (canonical_part _ _ w.is_canonical_part-then-is_canonical_part.ensures).0 (sym w.value-is ∙ c.if-is_canonical_part-2.true) in
          subst (λ p. canonical_authority p ≡ p) c.self.view_is (canonical_of_parts _ username password (c.is_normalized.ensures.0 is))
          )
      | else-is_canonical_part w ↦ absurd (false≢true (sym w.if-is_canonical_part.false ∙ sym w.value-is ∙ c.if-is_canonical_part-2.true))
    ]
