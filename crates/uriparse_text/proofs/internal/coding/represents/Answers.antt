use Rattle.std.proofs.Common.{◌≡◌, ◌∷◌, length, true, false, ◌∙◌, rules}
use Rattle.std.specs.Prelude.{◌==◌}
use Rattle.uriparse_text.proofs.lemmas.tokens.CodingLemmas.{represents_end, represents_more, represents_next, represents_other}
use Rattle.uriparse_text.proofs.internal.coding.represents.Goals as goal

pub tokens-init : goal.tokens-init
tokens-init c = c.after_common.ensures.represents

pub returns-then-value-b : goal.returns-then-value-b
returns-then-value-b c =
    let first : c.tokens.left.now ≡ c.in-Some-split_first.b ∷ c.in-Some-split_first.later.now = search rules in
    let other : (c.value.result == c.in-Some-split_first.b) ≡ false = search rules in
    represents_other _ _ _ c.in-Some-split_first.later.now _ c.value.result c.in-Some-split_first.b _ c.in-Some.ensures.cut first c.value.ensures other c.tokens.invariant

pub returns-in_default-split_first : goal.returns-in_default-split_first
returns-in_default-split_first c =
    let none : length c.tokens.left.now ≡ 0 = search rules in
    represents_more _ _ _ _ _ c.in-Some.ensures.cut none c.tokens.invariant

pub tokens-preserved : goal.tokens-preserved
tokens-preserved c =
    let first : c.tokens.left.now ≡ c.in-Some-split_first.b ∷ c.in-Some-split_first.later.now = search rules in
    let same : (c.value.result == c.in-Some-split_first.b) ≡ true = search rules in
    c.after_common-in-Some.ensures.represents
    ∙ represents_next _ _ _ c.in-Some-split_first.later.now _ c.value.result c.in-Some-split_first.b _ c.in-Some.ensures.cut first c.value.ensures same c.tokens.invariant

pub returns : goal.returns
returns c = c.is_empty.ensures ∙ represents_end _ _ _ c.in_default.ensures.cut c.tokens.invariant
