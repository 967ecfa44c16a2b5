use Rattle.std.proofs.Common.{sym, ap, subst, refl, ◌∙◌}
use Rattle.std.specs.Prelude.{IsTrue, ◌↔◌, ◌&&◌}
use Rattle.uriparse_text.specs.Canonical.{canonical_lowered}
use Rattle.uriparse_authority.specs.Within.{IsNameWithin, are_plain}
use Rattle.uriparse_authority.proofs.lemmas.hosts.NameWithinLemmas.{within_by}
use Rattle.uriparse_authority.proofs.authority.within.is_name_within.Goals as goal

pub returns-then-ends_with_labels : goal.returns-then-ends_with_labels
returns-then-ends_with_labels c =
    subst (λ v. IsTrue (v && c.are_plain.result) ↔ IsNameWithin (canonical_lowered c.args.name.now) (canonical_lowered c.args.domain.now))
    c.if-ends_with_labels.true
    (within_by _ _ _ _ c.ends_with_labels.result c.are_plain.result c.without_end_dot-name.ensures.spelled c.without_end_dot-domain.ensures.spelled
    c.ends_with_labels.ensures c.are_plain.ensures)

pub returns-else-ends_with_labels : goal.returns-else-ends_with_labels
returns-else-ends_with_labels c =
    let t = canonical_lowered c.without_end_dot-name.result.now in
    let u = canonical_lowered c.without_end_dot-domain.result.now in
    let same = ap (λ v. v && are_plain t u) c.if-ends_with_labels.false ∙ sym c.if-ends_with_labels.false in
    subst (λ v. IsTrue v ↔ IsNameWithin (canonical_lowered c.args.name.now) (canonical_lowered c.args.domain.now)) same
    (within_by _ _ t u c.ends_with_labels.result (are_plain t u) c.without_end_dot-name.ensures.spelled c.without_end_dot-domain.ensures.spelled
    c.ends_with_labels.ensures refl)
