use Rattle.std.proofs.Common.{◌≡◌, ◌∷◌, [], cond, length, take, slice_set, sym, ap, ◌∙◌, arith}
use Rattle.uriparse_text.specs.Bytes.{dot}
use Rattle.uriparse_path.specs.Relative.{filled}
use Rattle.uriparse_path.proofs.lemmas.list.EditLemmas.{first_set}
use Rattle.uriparse_path.proofs.path.segments.truncate_with_leading_dot.Goals as goal

pub returns-then-kept-eq0 : goal.returns-then-kept-eq0
returns-then-kept-eq0 c =
    let old = c.args.segments.now in
    let none : c.args.kept ≡ 0 = omega arith in
    let empty : filled (cond c.args.needs_leading_dot ((dot ∷ []) ∷ take c.args.kept old) (take c.args.kept old)) ≡ [] ∷ [] =
    ap (λ v. filled (cond v ((dot ∷ []) ∷ take c.args.kept old) (take c.args.kept old))) c.if-needs_leading_dot.false
    ∙ ap (λ n. filled (take n old)) none in
    c.truncate-then-kept-eq0.ensures
    ∙ ap (take 1) (c.put-then-kept-eq0.ensures.items ∙ ap (λ s. slice_set old 0 s) c.empty.ensures)
    ∙ first_set old (omega (arith, ap length empty, c.requires.room))
    ∙ sym empty
