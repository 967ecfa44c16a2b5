use Rattle.std.proofs.Common.{ap, sym, subst, ◌∙◌, ◌<◌, length}
use Rattle.std.specs.Prelude.{◌||◌}
use Rattle.uriparse_text.specs.Ambiguous.{has_ambiguous_escape}
use Rattle.uriparse_text.proofs.lemmas.tokens.AmbiguousLemmas.{ambiguous_after, ambiguous_token, escapes_fewer, none_ambiguous}
use Rattle.uriparse_text.proofs.internal.ambiguous.has_ambiguous_escape.Goals as goal

pub escapes-init : goal.escapes-init
escapes-init c = ap has_ambiguous_escape c.split_at_delimiter.ensures.rest ∙ ambiguous_after c.args.text.now

pub escapes-smaller : goal.escapes-smaller
escapes-smaller c =
    subst (λ u. length u < length c.escapes.rest.now) (sym c.split_at_delimiter-in-Some.ensures.rest)
    (escapes_fewer c.escapes.rest.now c.in-Some.after.now c.in-Some.token c.in-Some.ensures.spelled)

pub escapes-preserved : goal.escapes-preserved
escapes-preserved c =
    ap has_ambiguous_escape c.split_at_delimiter-in-Some.ensures.rest ∙ ambiguous_after c.in-Some.after.now
    ∙ sym (ambiguous_token c.escapes.rest.now c.in-Some.after.now c.in-Some.token c.is_ambiguous_token.result c.in-Some.ensures.cut c.is_ambiguous_token.ensures
    ∙ ap (λ v. v || has_ambiguous_escape c.in-Some.after.now) c.if-is_ambiguous_token.false)
    ∙ c.escapes.invariant

pub returns-then-is_ambiguous_token : goal.returns-then-is_ambiguous_token
returns-then-is_ambiguous_token c =
    sym (ambiguous_token c.escapes.rest.now c.in-Some.after.now c.in-Some.token c.is_ambiguous_token.result c.in-Some.ensures.cut c.is_ambiguous_token.ensures
    ∙ ap (λ v. v || has_ambiguous_escape c.in-Some.after.now) c.if-is_ambiguous_token.true)
    ∙ c.escapes.invariant

pub returns : goal.returns
returns c = sym (none_ambiguous c.escapes.rest.now c.in_default.ensures.cut) ∙ c.escapes.invariant
