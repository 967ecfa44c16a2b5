use Rattle.std.proofs.Common.{◌≡◌, ◌∷◌, ◌++◌, [], ℕ, List, length, arith, sym, ap, ◌∙◌, refl, append-nil, append_assoc}
use Rattle.std.specs.Vec.Iter.{into_iter_items}
use Rattle.uriparse_path.proofs.path.copy.owned_segments.Goals as goal

none_left : (l : List (List ℕ)) → length l ≡ 0 → l ≡ []
none_left [] h = refl
none_left (s ∷ l) h = absurd (omega (arith, h))

pub loop-segment-preserved : goal.loop-segment-preserved
loop-segment-preserved c =
    let i = c.loop-segment.invariant in
    let count : length (into_iter_items c.loop-segment.segment-iterator) ≡ length (c.in-Some.segment ∷ into_iter_items c.next.new.self) =
    ap length c.in-Some.ensures.steps.0 in (
      tt,
      tt,
      ap (λ v. v ++ into_iter_items c.next.new.self) (c.in_ok-push.ensures.items ∙ ap (λ x. c.loop-segment.owned.items ++ x ∷ []) c.in_ok-into_owned.ensures)
          ∙ append_assoc c.loop-segment.owned.items (c.in-Some.segment ∷ []) (into_iter_items c.next.new.self)
          ∙ ap (λ l. c.loop-segment.owned.items ++ l) (sym c.in-Some.ensures.steps.0)
          ∙ i.2,
      (let all = i.3 in let one = c.in-Some.ensures.steps.1 in omega (arith, count)),
    )

pub returns : goal.returns
returns c =
    let i = c.loop-segment.invariant in
    let none : into_iter_items c.loop-segment.segment-iterator ≡ [] =
    none_left (into_iter_items c.loop-segment.segment-iterator) (i.3 ∙ c.in-None.ensures.steps.0) in
    sym (ap (λ l. c.loop-segment.owned.items ++ l) none ∙ append-nil c.loop-segment.owned.items) ∙ i.2
