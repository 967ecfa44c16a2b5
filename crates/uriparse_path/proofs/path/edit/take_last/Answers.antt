use Rattle.std.proofs.Common.{slice_set, sym, ap, ◌∙◌, arith}
use Rattle.uriparse_path.proofs.lemmas.list.EditLemmas.{popped_one, popped_several, set_only}
use Rattle.uriparse_path.proofs.path.edit.take_last.Goals as goal

pub returns : goal.returns
returns c = c.truncate.ensures ∙ popped_several c.args.segments.now _ (omega arith) (omega arith)

pub returns-then-len-eq1 : goal.returns-then-len-eq1
returns-then-len-eq1 c =
    c.put.ensures.items ∙ ap (λ s. slice_set c.args.segments.now 0 s) c.empty.ensures ∙ set_only c.args.segments.now (omega arith)
    ∙ sym (popped_one c.args.segments.now (omega arith))
