use Rattle.std.proofs.Common.{◌∙◌}
use Rattle.uriparse_text.proofs.lemmas.tokens.CodingLemmas.{compared-cons, compared_end, compared_less, compared_more, compared_other, compared_same}
use Rattle.uriparse_text.proofs.internal.coding.compare_represented.Goals as goal

pub tokens-init : goal.tokens-init
tokens-init c = c.after_common.ensures.compared

pub returns-in_default-split_token : goal.returns-in_default-split_token
returns-in_default-split_token c = compared_more _ _ _ _ _ c.in-Some.ensures.cut c.in_default-split_token.ensures.cut c.tokens.invariant

pub returns-in_default-cmp : goal.returns-in_default-cmp
returns-in_default-cmp c =
    compared_other _ _ _ c.in_default-cmp.not-Equal
    (compared-cons _ _ _ _ _ _ _ _ _ _ c.in-Some.ensures.cut c.in-Some-split_token.ensures.cut c.value.ensures c.value-in-Some.ensures c.cmp.ensures
    c.tokens.invariant)

pub tokens-preserved : goal.tokens-preserved
tokens-preserved c =
    c.after_common-in-Some.ensures.compared
    ∙ compared_same _ _ _ c.in-Equal.is
    (compared-cons _ _ _ _ _ _ _ _ _ _ c.in-Some.ensures.cut c.in-Some-split_token.ensures.cut c.value.ensures c.value-in-Some.ensures c.cmp.ensures
    c.tokens.invariant)

pub returns-in-None : goal.returns-in-None
returns-in-None c = compared_end _ _ _ c.in_default.ensures.cut c.in-None.ensures.cut c.tokens.invariant

pub returns-in-Some-split_token-2 : goal.returns-in-Some-split_token-2
returns-in-Some-split_token-2 c = compared_less _ _ _ _ _ c.in_default.ensures.cut c.in-Some-split_token-2.ensures.cut c.tokens.invariant
