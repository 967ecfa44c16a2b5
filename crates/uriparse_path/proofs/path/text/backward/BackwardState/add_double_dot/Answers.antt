use Rattle.std.proofs.Common.{◌≡◌, ◌+◌, suc, sym, subst, ◌∙◌, arith}
use Rattle.uriparse_path.specs.declared.path.text.backward.BackwardState.{BackwardState}
use Rattle.uriparse_path.specs.Remaining.{IsBackwardState}
use Rattle.uriparse_path.proofs.lemmas.left.BackwardLemmas.{back_double}
use Rattle.uriparse_path.proofs.path.text.backward.BackwardState.add_double_dot.Goals as goal

pub returns-clause-is : goal.returns-clause-is
returns-clause-is c = λ form ended l buffer t is.
    let e = c.args.self in
    let higher : BackwardState = record { double_dots = e.double_dots + 1; kept = e.kept; removed = e.removed; colon = e.colon; text = e.text } in
    let more : e.double_dots + 1 ≡ suc l.double_dots = omega (arith, is.double_dots) in
    subst (λ k. IsBackwardState form ended k higher buffer t)
    (sym (back_double c.args.segment.now l (sym c.is_double_dots.ensures ∙ c.if-not-is_double_dots.false)))
    (record { double_dots = more; removed = is.removed; kept = is.kept; colon = is.colon; placed = is.placed })
