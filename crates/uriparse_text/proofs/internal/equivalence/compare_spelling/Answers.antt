use Rattle.std.proofs.Common.{ap, ◌∙◌}
use Rattle.std.specs.Ordering.{nat_cmp}
use Rattle.uriparse_text.specs.Alike.{rank_of}
use Rattle.uriparse_text.proofs.lemmas.canonical.OrderLemmas.{follow_on, is_less, is_more, is_other, is_same}
use Rattle.uriparse_text.proofs.internal.equivalence.compare_spelling.Goals as goal

pub tokens-init : goal.tokens-init
tokens-init c = c.after_common.ensures.front c.args.case

pub returns-in_default-split_code : goal.returns-in_default-split_code
returns-in_default-split_code c = is_more _ _ _ _ _ c.in-Some.after.now c.in-Some.x c.tokens.invariant c.in-Some.ensures.cut c.in_default-split_code.ensures.cut

pub tokens-preserved : goal.tokens-preserved
tokens-preserved c =
    follow_on _ _ _ _ _ c.in-Some.after.now c.in-Some-split_code.later.now _ _ c.in-Some.x c.in-Some-split_code.y c.tokens.invariant c.in-Some.ensures.cut c.in-Some-split_code.ensures.cut c.if-x-y.false
    (c.after_common-in-Some.ensures.front c.args.case)

pub returns-in-None : goal.returns-in-None
returns-in-None c = is_same _ _ _ _ _ c.tokens.invariant c.in_default.ensures.cut c.in-None.ensures.cut

pub returns-then-x-y : goal.returns-then-x-y
returns-then-x-y c =
    c.cmp.ensures ∙ ap (λ n. nat_cmp n c.rank-then-x-y.result) c.rank.ensures ∙ ap (nat_cmp (rank_of c.in-Some.x)) c.rank-then-x-y.ensures
    ∙ is_other _ _ _ _ _ c.in-Some.after.now c.in-Some-split_code.later.now c.in-Some.x c.in-Some-split_code.y c.requires.left c.requires.right
    c.tokens.invariant c.in-Some.ensures.cut c.in-Some-split_code.ensures.cut c.in-Some.ensures.code c.in-Some-split_code.ensures.code c.if-x-y.true

pub returns-in-Some-split_code-2 : goal.returns-in-Some-split_code-2
returns-in-Some-split_code-2 c =
    is_less _ _ _ _ _ c.in-Some-split_code-2.field-0.1.now c.in-Some-split_code-2.field-0.0 c.tokens.invariant c.in_default.ensures.cut
    c.in-Some-split_code-2.ensures.cut
