use Rattle.std.proofs.Common.{ap, sym, ◌∙◌}
use Rattle.uriparse_text.specs.declared.internal.token.Case.TheVariants.{Lowered}
use Rattle.uriparse_text.specs.Canonical.{canonical_lowered}
use Rattle.uriparse_text.proofs.lemmas.canonical.CanonicalLemmas.{canonical_in-nil}
use Rattle.uriparse_authority.specs.Within.{begins_with_digit, last_label}
use Rattle.uriparse_authority.proofs.lemmas.hosts.NameWithinLemmas.{last_by}
use Rattle.uriparse_authority.proofs.lemmas.hosts.WithinLemmas.{ascii_digit, digit-first, pieces}
use Rattle.uriparse_authority.proofs.authority.within.ends_in_number.Goals as goal

pub returns-in-Some : goal.returns-in-Some
returns-in-Some c =
    let last = last_by (canonical_lowered c.without_end_dot-name.result.now) (canonical_lowered c.skip_labels.result.now) c.dot_count.result
    c.dot_count.ensures c.skip_labels.ensures.left in
    c.is_ascii_digit.ensures.value ∙ ascii_digit c.in-Some.octet ∙ sym (digit-first c.in-Some.octet _ _ c.in-Some.ensures.cut) ∙ ap begins_with_digit last
    ∙ ap (λ t. begins_with_digit (last_label (pieces t))) c.without_end_dot-name.ensures.spelled

pub returns-in-None : goal.returns-in-None
returns-in-None c =
    let last = last_by (canonical_lowered c.without_end_dot-name.result.now) (canonical_lowered c.skip_labels.result.now) c.dot_count.result
    c.dot_count.ensures c.skip_labels.ensures.left in
    sym (ap (λ t. begins_with_digit (canonical_lowered t)) c.in-None.ensures.cut ∙ ap begins_with_digit (canonical_in-nil Lowered)) ∙ ap begins_with_digit last
    ∙ ap (λ t. begins_with_digit (last_label (pieces t))) c.without_end_dot-name.ensures.spelled
