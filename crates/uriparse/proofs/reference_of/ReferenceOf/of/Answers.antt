use Rattle.std.proofs.Common.{Ok, Err, cond, sym, ap, ◌∙◌}
use Rattle.uriparse.proofs.reference_of.ReferenceOf.of.Goals as goal

pub returns-then-is_own : goal.returns-then-is_own
returns-then-is_own g c =
    ap Ok c.of_checked.ensures ∙ ap (λ b. cond b (Ok c.args.reference) (Err g.K.ReferenceKind.other)) (sym c.if-is_own.true ∙ c.is_own.ensures)

pub returns : goal.returns
returns g c =
    ap Err c.other.ensures ∙ ap (λ b. cond b (Ok c.args.reference) (Err g.K.ReferenceKind.other)) (sym c.if-is_own.false ∙ c.is_own.ensures)
