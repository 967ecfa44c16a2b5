use Rattle.std.proofs.Common.{◌≡◌, sym, ap, ◌∙◌, ◌&&◌, ◌+◌, cond, length}
use Rattle.std.specs.Prelude.{◌==◌}
use Rattle.uriparse_path.specs.Dots.{is_double_dot}
use Rattle.uriparse_path.proofs.lemmas.list.SegmentCountLemmas.{has_last, counts_less, stray_is}
use Rattle.uriparse_path.proofs.path.counts.Counts.without_last.Goals.{then-is_double, else-is_double}
use Rattle.uriparse_path.proofs.path.counts.Counts.without_last.Goals as goal

pub one_less-requires : goal.one_less-requires
one_less-requires c h =
    (has_last c.args.self c.args.segments.now c.in-Some.field-0-1.now c.in-Some.last.now c.requires c.in-Some.ensures.cases.0).single
    (sym c.is_single_dot_segment.ensures ∙ h)

pub one_less-requires-in-Some : goal.one_less-requires-in-Some
one_less-requires-in-Some c h =
    (has_last c.args.self c.args.segments.now c.in-Some.field-0-1.now c.in-Some.last.now c.requires c.in-Some.ensures.cases.0).double
    (sym c.is_double_dot_segment-is_double.ensures ∙ h)

pub one_less-requires-in-Some-3 : goal.one_less-requires-in-Some-3
one_less-requires-in-Some-3 c h =
    (has_last c.args.self c.args.segments.now c.in-Some.field-0-1.now c.in-Some.last.now c.requires c.in-Some.ensures.cases.0).non_canonical
    (sym (stray_is c.in-Some.last.now c.is_normalized.result c.is_normalized.ensures) ∙ h)

pub returns-after-is_double : goal.returns-after-is_double
returns-after-is_double c =
    let leads : c.if-is_double.one_less ≡ (is_double_dot c.in-Some.last.now && c.args.self.leading == length c.args.segments.now) = elim c.if-is_double.branch [
      | then-is_double w ↦ w.one_less-is
          ∙ sym (ap (λ v. v && c.args.self.leading == length c.args.segments.now) (sym c.is_double_dot_segment-is_double.ensures ∙ w.if-is_double.true))
      | else-is_double w ↦ w.one_less-is ∙ w.if-is_double.false
          ∙ sym (ap (λ v. v && c.args.self.leading == length c.args.segments.now) (sym c.is_double_dot_segment-is_double.ensures ∙ w.if-is_double.false))
    ] in
    counts_less c.args.self c.args.segments.now c.in-Some.field-0-1.now c.in-Some.last.now _ _ _ _ c.requires c.in-Some.ensures.cases.0
    (ap (λ v. c.one_less.result + cond v 1 0) (sym c.is_single_dot_segment.ensures) ∙ c.one_less.ensures)
    (ap (λ v. c.one_less-in-Some.result + cond v 1 0) (sym c.is_double_dot_segment-is_double.ensures) ∙ c.one_less-in-Some.ensures)
    (ap (λ v. c.one_less-in-Some-2.result + cond v 1 0) (sym leads) ∙ c.one_less-in-Some-2.ensures)
    (ap (λ v. c.one_less-in-Some-3.result + cond v 1 0) (sym (stray_is c.in-Some.last.now c.is_normalized.result c.is_normalized.ensures))
    ∙ c.one_less-in-Some-3.ensures)
