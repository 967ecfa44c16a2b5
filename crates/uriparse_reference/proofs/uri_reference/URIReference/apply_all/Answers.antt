use Rattle.std.proofs.Common.{◌≡◌, ◌∷◌, [], length, arith, ap, ◌∙◌, subst}
use Rattle.std.specs.Vec.Iter.{into_iter_items}
use Rattle.uriparse_reference.proofs.lemmas.edits.EditLemmas.{Continues, empty, step, stop, finish}
use Rattle.uriparse_reference.proofs.uri_reference.URIReference.apply_all.Goals as goal

pub returns-in-Err : goal.returns-in-Err
returns-in-Err c =
    let i = c.loop-edit.invariant in
    let left : Continues c.args.self.now c.args.edits.items c.loop-edit.self c.loop-edit.index (c.in-Some.edit ∷ into_iter_items c.next.new.self) =
    subst (λ l. Continues c.args.self.now c.args.edits.items c.loop-edit.self c.loop-edit.index l) c.in-Some.ensures.steps.0 i.2 in
    stop c.args.self.now c.loop-edit.self c.apply.new.self c.args.edits.items (into_iter_items c.next.new.self) c.loop-edit.index c.in-Some.edit
    c.in-Err.error left c.in-Err.ensures.0 c.in-Err.ensures.1

pub loop-edit-preserved : goal.loop-edit-preserved
loop-edit-preserved c =
    let i = c.loop-edit.invariant in
    let left : Continues c.args.self.now c.args.edits.items c.loop-edit.self c.loop-edit.index (c.in-Some.edit ∷ into_iter_items c.next.new.self) =
    subst (λ l. Continues c.args.self.now c.args.edits.items c.loop-edit.self c.loop-edit.index l) c.in-Some.ensures.steps.0 i.2 in
    let count : length (into_iter_items c.loop-edit.edit-iterator) ≡ length (c.in-Some.edit ∷ into_iter_items c.next.new.self) =
    ap length c.in-Some.ensures.steps.0 in (
      tt,
      tt,
      step c.args.self.now c.loop-edit.self c.apply.new.self c.args.edits.items (into_iter_items c.next.new.self) c.loop-edit.index c.in-Some.edit left
          c.in_default.ensures,
      omega (arith, i.3, count),
      (let all = i.4 in let one = c.in-Some.ensures.steps.1 in omega (arith, count)),
    )

pub returns : goal.returns
returns c =
    let i = c.loop-edit.invariant in
    let none : into_iter_items c.loop-edit.edit-iterator ≡ [] = empty (into_iter_items c.loop-edit.edit-iterator) (i.4 ∙ c.in-None.ensures.steps.0) in
    finish c.args.self.now c.loop-edit.self c.args.edits.items (into_iter_items c.loop-edit.edit-iterator) c.loop-edit.index i.2 none i.3
