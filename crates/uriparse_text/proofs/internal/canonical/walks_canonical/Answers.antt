use Rattle.std.proofs.Common.{◌≡◌, [], refl, sym, ap, ◌∙◌}
use Rattle.std.proofs.lemmas.Bool.{false≢true}
use Rattle.uriparse_text.specs.Canonical as spec
use Rattle.uriparse_text.proofs.lemmas.canonical.CanonicalLemmas.{canonical_in-nil, canonical_following, canonical_more, canonical_never}
use Rattle.uriparse_text.proofs.internal.canonical.walks_canonical.Goals as goal

pub returns-then-not-is_canonical : goal.returns-then-not-is_canonical
returns-then-not-is_canonical c =
    let differs : spec.canonical_token c.args.case c.in-Some.token ≡ c.in-Some.token → ⊥ =
    λ e. false≢true (sym c.if-not-is_canonical.true ∙ c.is_canonical.ensures.1 e) in (
      λ h. absurd (false≢true h),
      λ h. absurd (canonical_never c.args.case c.tokens.rest.now c.in-Some.after.now c.in-Some.token c.in-Some.ensures.cut c.in-Some.ensures.spelled differs
          (c.tokens.invariant.1 h)),
    )

pub tokens-preserved : goal.tokens-preserved
tokens-preserved c =
    let same : spec.canonical_token c.args.case c.in-Some.token ≡ c.in-Some.token = c.is_canonical.ensures.0 c.if-not-is_canonical.false in
    let more = canonical_more c.args.case c.tokens.rest.now c.in-Some.after.now c.in-Some.token c.in-Some.ensures.cut c.in-Some.ensures.spelled same in
    let following = canonical_following c.args.case c.in-Some.after.now c.split_run.result.0.now c.split_run.result.1.now
    c.split_run.ensures.whole c.split_run.ensures.spelled in
    (λ h. c.tokens.invariant.0 (more.0 (following.0 h)), λ h. following.1 (more.1 (c.tokens.invariant.1 h)))

pub returns : goal.returns
returns c =
    let ends : c.tokens.rest.now ≡ [] = c.in_default.ensures.cut in
    (λ h. c.tokens.invariant.0 (ap (spec.canonical_in c.args.case) ends ∙ canonical_in-nil c.args.case ∙ sym ends), λ h. refl)
