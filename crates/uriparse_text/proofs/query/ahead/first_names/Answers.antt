use Rattle.std.proofs.Common.{◌≡◌, Some, None, ap, ◌∙◌, subst, arith, rules}
use Rattle.std.specs.Option.{option_copied}
use Rattle.uriparse_text.specs.Cuts.{part}
use Rattle.uriparse_text.proofs.lemmas.readings.AheadLemmas.{Filling, filling_last, filling_next, filling_some}
use Rattle.uriparse_text.proofs.query.ahead.first_names.Goals as goal

pub returns-in_default-clause-some : goal.returns-in_default-clause-some
returns-in_default-clause-some c =
    let none : option_copied c.loop-at.rest ≡ None = search rules in
    filling_some _ _ c.loop-at.at c.loop-at.names c.loop-at.invariant none

pub returns-in_default-clause-names : goal.returns-in_default-clause-names
returns-in_default-clause-names c = filling_last _ _ c.loop-at.at c.loop-at.names c.loop-at.invariant (omega (arith, c.loop-at-test.true))

pub loop-at-preserved : goal.loop-at-preserved
loop-at-preserved c =
    let some : option_copied c.loop-at.rest ≡ Some c.in-Some.left.now = search rules in
    filling_next _ _ c.in-Some.left.now c.split_at_delimiter.result.0.now _ c.loop-at.at c.loop-at.names c.split_at_delimiter-in-loop-at.result.0 c.loop-at.invariant some
    c.split_at_delimiter.ensures.front (c.without_delimiter-rest.ensures ∙ ap part c.split_at_delimiter.ensures.rest) c.split_at_delimiter-in-loop-at.ensures.front c.loop-at-test.true

pub returns-clause-names : goal.returns-clause-names
returns-clause-names c =
    let at : c.loop-at.at ≡ 64 = omega (arith, c.loop-at-test.false, c.loop-at.auto.at-end) in
    filling_last c.args.query.now (option_copied c.loop-at.rest) 64 c.loop-at.names
    (subst (λ n. Filling c.args.query.now (option_copied c.loop-at.rest) n c.loop-at.names) at c.loop-at.invariant) (omega arith)
