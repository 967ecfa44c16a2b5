use Rattle.std.proofs.Common.{◌≡◌, [], length, refl, sym, ap, ◌∙◌}
use Rattle.std.proofs.lemmas.Bool.{eqb-true}
use Rattle.std.proofs.lemmas.List.{nil_from_length}
use Rattle.uriparse_text.specs.Canonical.{canonical_in}
use Rattle.uriparse_text.proofs.lemmas.canonical.CanonicalLemmas.{canonical_in-nil, canonical_following}
use Rattle.uriparse_text.proofs.internal.canonical.is_canonical.Goals as goal

pub returns-then-is_empty : goal.returns-then-is_empty
returns-then-is_empty c =
    let rest = c.split_run.result.1.now in
    let ends : rest ≡ [] = nil_from_length rest (eqb-true (length rest) 0 (sym c.is_empty.ensures ∙ c.if-is_empty.true)) in
    let following = canonical_following c.args.case c.args.text.now c.split_run.result.0.now rest c.split_run.ensures.whole c.split_run.ensures.spelled in
    (λ h. following.0 (ap (canonical_in c.args.case) ends ∙ canonical_in-nil c.args.case ∙ sym ends), λ h. refl)

pub returns : goal.returns
returns c =
    let following = canonical_following c.args.case c.args.text.now c.split_run.result.0.now c.split_run.result.1.now c.split_run.ensures.whole
    c.split_run.ensures.spelled in
    (λ h. following.0 (c.begins_canonical.ensures.0 h), λ h. c.begins_canonical.ensures.1 (following.1 h))
