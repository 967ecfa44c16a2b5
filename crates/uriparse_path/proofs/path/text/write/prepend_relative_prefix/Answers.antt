use Rattle.std.proofs.Common.{◌≡◌, ◌++◌, ◌||◌, ◌&&◌, not, true, false, ◌<◌, ◌∙◌, sym, ap, subst, arith, rules}
use Rattle.uriparse_text.specs.declared.internal.backward_buffer.Form.TheVariants.{Canonical}
use Rattle.uriparse_text.specs.Ends.{EndsWith}
use Rattle.uriparse_path.specs.Path.{is_rooted}
use Rattle.uriparse_path.specs.Relative.{is_first, has_colon}
use Rattle.uriparse_path.specs.Remaining.{climbed, is_more, remaining_text}
use Rattle.uriparse_path.proofs.lemmas.left.RelativeRemainingLemmas.{led_climbed, led_plain}
use Rattle.uriparse_path.proofs.path.text.write.prepend_relative_prefix.Goals as goal

pub returns-then-state-gt0-clause-puts : goal.returns-then-state-gt0-clause-puts
returns-then-state-gt0-clause-puts c = λ ended l t is.
    let u = remaining_text Canonical ended l.kept in
    let some : 0 < l.double_dots = subst (λ n. 0 < n) is.double_dots c.if-state-gt0.true in
    subst (EndsWith c.prepend_double_dots.new.out c.prepend_double_dots.result)
    (ap (λ n. climbed n c.args.state.kept (u ++ t)) is.double_dots
    ∙ ap (λ v. climbed l.double_dots v (u ++ t)) is.kept
    ∙ led_climbed l.double_dots (is_more l.kept) (is_rooted u || (is_first has_colon l.kept && not c.args.had_colon)) u t some)
    (c.prepend_double_dots.ensures.puts (u ++ t) is.placed.ends)

pub returns-then-state-clause-puts : goal.returns-then-state-clause-puts
returns-then-state-clause-puts c = λ ended l t is.
    let u = remaining_text Canonical ended l.kept in
    let none : l.double_dots ≡ 0 = sym is.double_dots ∙ omega arith in
    let with_leading_dot : (c.args.state.text.rooted || (c.args.state.colon && not c.args.had_colon)) ≡ true = search rules in
    subst (λ x. EndsWith c.prepend.new.out c.prepend.result (x ++ t))
    (sym (led_plain l.double_dots (is_more l.kept) (is_rooted u || (is_first has_colon l.kept && not c.args.had_colon)) true u none
    (ap (λ v. v || (is_first has_colon l.kept && not c.args.had_colon)) (sym is.placed.rooted)
    ∙ ap (λ v. c.args.state.text.rooted || (v && not c.args.had_colon)) (sym is.colon) ∙ with_leading_dot)))
    (c.prepend.ensures.puts (u ++ t) is.placed.ends)

pub returns-clause-puts : goal.returns-clause-puts
returns-clause-puts c = λ ended l t is.
    let u = remaining_text Canonical ended l.kept in
    let none : l.double_dots ≡ 0 = sym is.double_dots ∙ omega arith in
    let with_leading_dot : (c.args.state.text.rooted || (c.args.state.colon && not c.args.had_colon)) ≡ false = search rules in
    subst (λ x. EndsWith c.args.out.now c.args.state.text.len (x ++ t))
    (sym (led_plain l.double_dots (is_more l.kept) (is_rooted u || (is_first has_colon l.kept && not c.args.had_colon)) false u none
    (ap (λ v. v || (is_first has_colon l.kept && not c.args.had_colon)) (sym is.placed.rooted)
    ∙ ap (λ v. c.args.state.text.rooted || (v && not c.args.had_colon)) (sym is.colon) ∙ with_leading_dot)))
    is.placed.ends
