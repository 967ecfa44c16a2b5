use Rattle.std.proofs.Common.{◌≡◌, true, false, rules}
use Rattle.std.specs.Prelude.{◌==◌}
use Rattle.uriparse_text.proofs.lemmas.readings.NamedLemmas.{begins_all, begins_end, begins_next, begins_other}
use Rattle.uriparse_text.proofs.internal.coding.represents_prefix.Goals as goal

pub returns-in_default-split_token : goal.returns-in_default-split_token
returns-in_default-split_token c = begins_end _ _ _ _ _ c.in_default-split_token.ensures.cut c.in-Some.ensures.cut c.tokens.invariant

pub returns-then-value : goal.returns-then-value
returns-then-value c =
    let other : (c.value.result == c.value-in-Some.result) ≡ false = search rules in
    begins_other _ _ _ _ _ _ _ _ c.in-Some-split_token.ensures.cut c.in-Some.ensures.cut c.value-in-Some.ensures c.value.ensures _ other c.tokens.invariant

pub tokens-preserved : goal.tokens-preserved
tokens-preserved c =
    let same : (c.value.result == c.value-in-Some.result) ≡ true = search rules in
    begins_next _ _ _ _ _ _ _ _ c.in-Some-split_token.ensures.cut c.in-Some.ensures.cut c.value-in-Some.ensures c.value.ensures _ same c.tokens.invariant

pub returns : goal.returns
returns c = begins_all _ _ _ c.in_default.ensures.cut c.tokens.invariant
