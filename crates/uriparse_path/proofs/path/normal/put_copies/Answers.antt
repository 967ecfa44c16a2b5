use Rattle.std.proofs.Common.{◌≡◌, ◌∷◌, [], length, sym, ap, subst, ◌∙◌}
use Rattle.std.proofs.Common.{arith, rules}
use Rattle.std.specs.Vec.Iter.{into_iter_items, into_iter_len}
use Rattle.uriparse_path.specs.Copies.{placed}
use Rattle.uriparse_path.proofs.lemmas.normal.CanonicalCopyLemmas.{AreWithin, all_put, all_within, nothing, with_copies}
use Rattle.uriparse_path.proofs.path.normal.put_copies.Goals as goal

pub loop-at-init : goal.loop-at-init
loop-at-init c =
    let is : into_iter_items c.into_iter-at-iterator.result ≡ placed 0 c.args.segments.now = search rules in
    let count : length (into_iter_items c.into_iter-at-iterator.result) ≡ into_iter_len c.into_iter-at-iterator.result = search rules in (
      tt,
      tt,
      ap (λ l. with_copies l c.args.segments.now) is ∙ all_put c.args.segments.now,
      subst (λ l. AreWithin l (length c.args.segments.now)) (sym is) (all_within c.args.segments.now),
      count,
    )

pub put-requires : goal.put-requires
put-requires c =
    let within = subst (λ l. AreWithin l (length c.loop-at.segments)) c.in-Some.ensures.steps.0 c.loop-at.invariant.3 in
    within.0

pub loop-at-preserved : goal.loop-at-preserved
loop-at-preserved c =
    let i = c.loop-at.invariant in
    let first = c.in-Some.ensures.steps.0 in
    let within = subst (λ l. AreWithin l (length c.loop-at.segments)) first i.3 in
    let count : length (into_iter_items c.loop-at.at-iterator) ≡ length ((c.in-Some.at, c.in-Some.copy) ∷ into_iter_items c.next.new.self) = ap length first in (
      tt,
      tt,
      ap (with_copies (into_iter_items c.next.new.self)) c.put.ensures.items ∙ sym (ap (λ l. with_copies l c.loop-at.segments) first) ∙ i.2,
      subst (AreWithin (into_iter_items c.next.new.self)) (sym c.put.ensures.len) within.1,
      (let all = i.4 in let one = c.in-Some.ensures.steps.1 in omega (arith, count)),
    )

pub returns : goal.returns
returns c =
    let i = c.loop-at.invariant in
    let none : into_iter_items c.loop-at.at-iterator ≡ [] =
    nothing (into_iter_items c.loop-at.at-iterator) (i.4 ∙ c.in-None.ensures.steps.0) in
    sym (ap (λ l. with_copies l c.loop-at.segments) none) ∙ i.2
