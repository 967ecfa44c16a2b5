use Rattle.std.proofs.lemmas.List.{map-append}
use Rattle.std.proofs.lemmas.Grind.{common_steps}
use Rattle.std.proofs.Common.{◌≡◌, ◌∷◌, [], Some, None, lit<, map, arith, sym, ap, ◌∙◌}
use Rattle.std.proofs.lemmas.Iterator.Consumers.{YieldsList-turn, YieldsList-end, YieldsList-at}
use Rattle.std.proofs.lemmas.Iterator.Splits.{YieldsList-from_str_split}
use Rattle.uri_commands.specs.Output as spec
use Rattle.uri_commands.proofs.RunLemmas.{no_parts, one_part_more}
use Rattle.uri_commands.proofs.get.read_parts.Goals as goal

pub returns-in_err-read_part : goal.returns-in_err-read_part
returns-in_err-read_part c =
    let e = YieldsList-from_str_split 44 c.args.names.now
    (lit< tt) c.split-name-items.ensures.text c.split-name-items.ensures.has_more c.split-name-items.ensures.pattern in
    let t = YieldsList-turn
    (YieldsList-at c.into_iter-name-iterator.ensures.into_iter_gives e) c.loop-name.yielded _ c.loop-name.yielded_by _ _ c.in-Some.name
    c.in-Some.is c.next.ensures.steps in
    let none : spec.parts_named c.args.names.now ≡ None = no_parts _ _ _ t.0 t.1 c.in_err-read_part.ensures.0 in
    grind (arith, common_steps)

pub loop-name-preserved : goal.loop-name-preserved
loop-name-preserved c = record {
  can_next = tt;
  is_finite = tt;
  read =
      ap spec.parts_of (map-append (λ x. x.now) c.loop-name.yielded (c.in-Some.name ∷ []))
      ∙ (one_part_more (map (λ x. x.now) c.loop-name.yielded) c.in-Some.name.now _ _ c.loop-name.invariant.read c.in_ok-read_part.ensures
      ∙ ap (λ ps. Some ps) (sym c.in_ok-push.ensures.items));
}

pub returns : goal.returns
returns c =
    let e = YieldsList-from_str_split 44 c.args.names.now
    (lit< tt) c.split-name-items.ensures.text c.split-name-items.ensures.has_more c.split-name-items.ensures.pattern in
    let t = YieldsList-end
    (YieldsList-at c.into_iter-name-iterator.ensures.into_iter_gives e) c.loop-name.yielded _ c.loop-name.yielded_by _ _ c.in-None.is
    c.next.ensures.steps in
    ap spec.parts_of (sym t.0) ∙ c.loop-name.invariant.read
