use Rattle.std.proofs.Common.{◌≡◌, sym, ap, ◌∙◌, ◌&&◌, ◌+◌, cond, length, arith}
use Rattle.std.specs.Prelude.{◌==◌}
use Rattle.uriparse_path.specs.Dots.{is_double_dot}
use Rattle.uriparse_path.proofs.lemmas.list.SegmentCountLemmas.{few, counts_push, stray_is}
use Rattle.uriparse_path.proofs.path.counts.Counts.with.Goals.{then-is_double, else-is_double}
use Rattle.uriparse_path.proofs.path.counts.Counts.with.Goals as goal

pub one_more-requires : goal.one_more-requires
one_more-requires c = let are = few c.args.self c.args.segments.now c.requires.counted in let at = are.single in omega (arith, c.requires.room)

pub one_more-requires-2 : goal.one_more-requires-2
one_more-requires-2 c = let are = few c.args.self c.args.segments.now c.requires.counted in let at = are.double in omega (arith, c.requires.room)

pub one_more-requires-3 : goal.one_more-requires-3
one_more-requires-3 c = let are = few c.args.self c.args.segments.now c.requires.counted in let at = are.leading in omega (arith, c.requires.room)

pub one_more-requires-4 : goal.one_more-requires-4
one_more-requires-4 c = let are = few c.args.self c.args.segments.now c.requires.counted in let at = are.non_canonical in omega (arith, c.requires.room)

pub returns : goal.returns
returns c =
    let leads : c.if-is_double.one_more ≡ (is_double_dot c.args.last.now && c.args.self.leading == length c.args.segments.now) = elim c.if-is_double.branch [
      | then-is_double w ↦ w.one_more-is
          ∙ sym (ap (λ v. v && c.args.self.leading == length c.args.segments.now) (sym c.is_double_dot_segment-is_double.ensures ∙ w.if-is_double.true))
      | else-is_double w ↦ w.one_more-is ∙ w.if-is_double.false
          ∙ sym (ap (λ v. v && c.args.self.leading == length c.args.segments.now) (sym c.is_double_dot_segment-is_double.ensures ∙ w.if-is_double.false))
    ] in
    counts_push c.args.self c.args.segments.now c.args.last.now _ _ _ _ c.requires.counted
    (c.one_more.ensures ∙ ap (λ v. c.args.self.single + cond v 1 0) c.is_single_dot_segment.ensures)
    (c.one_more-2.ensures ∙ ap (λ v. c.args.self.double + cond v 1 0) c.is_double_dot_segment-is_double.ensures)
    (c.one_more-3.ensures ∙ ap (λ v. c.args.self.leading + cond v 1 0) leads)
    (c.one_more-4.ensures ∙ ap (λ v. c.args.self.non_canonical + cond v 1 0) (stray_is c.args.last.now c.is_normalized.result c.is_normalized.ensures))
