use Rattle.std.proofs.Common.{◌≡◌, sym, ap, ◌∙◌, ◌&&◌, ◌+◌, cond, length, arith}
use Rattle.std.specs.Prelude.{◌==◌}
use Rattle.uriparse_path.specs.Dots.{is_single_dot, is_double_dot}
use Rattle.uriparse_path.proofs.lemmas.list.SegmentCountLemmas.{few, counts_push, single_by_bytes, double_by_bytes, no_stray}
use Rattle.uriparse_path.proofs.path.counts.Counts.with_canonical.Goals.{then-is_double, else-is_double}
use Rattle.uriparse_path.proofs.path.counts.Counts.with_canonical.Goals as goal

pub one_more-requires : goal.one_more-requires
one_more-requires c = let are = few c.args.self c.args.segments.now c.requires.counted in let at = are.single in omega (arith, c.requires.room)

pub one_more-requires-2 : goal.one_more-requires-2
one_more-requires-2 c = let are = few c.args.self c.args.segments.now c.requires.counted in let at = are.double in omega (arith, c.requires.room)

pub one_more-requires-3 : goal.one_more-requires-3
one_more-requires-3 c = let are = few c.args.self c.args.segments.now c.requires.counted in let at = are.leading in omega (arith, c.requires.room)

pub returns : goal.returns
returns c =
    let last = c.args.last.now in
    let single : c.eq-is_single.result ≡ is_single_dot last =
    (rw (c.as_bytes.ensures.value, c.as_slice.ensures) at c.eq-is_single.ensures) ∙ single_by_bytes last c.requires.canonical in
    let double : c.eq-is_double.result ≡ is_double_dot last =
    (rw (c.as_bytes-2.ensures.value, c.as_slice-2.ensures) at c.eq-is_double.ensures) ∙ double_by_bytes last c.requires.canonical in
    let leads : c.if-is_double.leads ≡ (is_double_dot last && c.args.self.leading == length c.args.segments.now) = elim c.if-is_double.branch [
      | then-is_double w ↦ w.leads-is ∙ sym (ap (λ v. v && c.args.self.leading == length c.args.segments.now) (sym double ∙ w.if-is_double.true))
      | else-is_double w ↦ w.leads-is ∙ w.if-is_double.false
          ∙ sym (ap (λ v. v && c.args.self.leading == length c.args.segments.now) (sym double ∙ w.if-is_double.false))
    ] in
    counts_push c.args.self c.args.segments.now last _ _ _ _ c.requires.counted
    (c.one_more.ensures ∙ ap (λ v. c.args.self.single + cond v 1 0) single)
    (c.one_more-2.ensures ∙ ap (λ v. c.args.self.double + cond v 1 0) double)
    (c.one_more-3.ensures ∙ ap (λ v. c.args.self.leading + cond v 1 0) leads)
    (no_stray last c.args.self.non_canonical c.requires.canonical)
