use Rattle.std.proofs.Common.{◌≡◌, ◌∷◌, [], sym, ◌∙◌}
use Rattle.std.proofs.lemmas.Bool.{false≢true}
use Rattle.uriparse_text.specs.Canonical.{canonical_tokens}
use Rattle.uriparse_text.specs.Alike.{token_of}
use Rattle.uriparse_text.proofs.lemmas.canonical.CanonicalLemmas.{canonical_tokens-empty}
use Rattle.uriparse_text.proofs.lemmas.canonical.ComparisonLemmas.{same_fronts, other_fronts, both_end}
use Rattle.uriparse_text.proofs.internal.equivalence.same_tokens.Goals as goal

pub tokens-init : goal.tokens-init
tokens-init c = c.after_common.ensures.same c.args.case

pub returns-in_default-split_code : goal.returns-in_default-split_code
returns-in_default-split_code c = (
  λ h. absurd (false≢true h),
  λ h.
      let joined : token_of c.in-Some.x ∷ canonical_tokens c.args.case c.in-Some.after_x.now ≡ [] =
      sym c.in-Some.ensures.cut ∙ c.tokens.invariant.1 h ∙ canonical_tokens-empty c.args.case c.tokens.right.now c.in_default-split_code.ensures.cut in
      cc,
)

pub returns-then-x-y : goal.returns-then-x-y
returns-then-x-y c = (
  λ h. absurd (false≢true h),
  λ h. absurd (other_fronts (canonical_tokens c.args.case c.tokens.left.now) (canonical_tokens c.args.case c.tokens.right.now)
      (canonical_tokens c.args.case c.in-Some.after_x.now) (canonical_tokens c.args.case c.in-Some-split_code.after_y.now)
      c.in-Some.x c.in-Some-split_code.y c.in-Some.ensures.cut c.in-Some-split_code.ensures.cut c.in-Some.ensures.code c.in-Some-split_code.ensures.code
      c.if-x-y.true (c.tokens.invariant.1 h)),
)

pub tokens-preserved : goal.tokens-preserved
tokens-preserved c =
    let following = c.after_common-in-Some.ensures.same c.args.case in
    let cut = same_fronts (canonical_tokens c.args.case c.tokens.left.now) (canonical_tokens c.args.case c.tokens.right.now)
    (canonical_tokens c.args.case c.in-Some.after_x.now) (canonical_tokens c.args.case c.in-Some-split_code.after_y.now)
    c.in-Some.x c.in-Some-split_code.y c.in-Some.ensures.cut c.in-Some-split_code.ensures.cut c.if-x-y.false in
    (λ h. c.tokens.invariant.0 (cut.0 (following.0 h)), λ h. following.1 (cut.1 (c.tokens.invariant.1 h)))

pub returns : goal.returns
returns c =
    both_end c.args.case c.tokens.left.now c.tokens.right.now (canonical_tokens c.args.case c.args.bytes.now) (canonical_tokens c.args.case c.args.text.now)
    c.is_empty.result c.in_default.ensures.cut c.tokens.invariant c.is_empty.ensures
