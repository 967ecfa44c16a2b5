use Rattle.std.proofs.Common.{◌<◌, [], ℕ, List, Bor, length, ◌∙◌, arith}
use Rattle.uriparse_text.proofs.lemmas.readings.AheadLemmas.{marked_kept, marked_set}
use Rattle.uriparse_text.proofs.query.ahead.mark.Goals.{then-not-answers-at, else-not-answers-at}
use Rattle.uriparse_text.proofs.query.ahead.mark.Goals as goal

pub loop-at-preserved : goal.loop-at-preserved
loop-at-preserved c =
    let room : c.loop-at.at < length c.loop-at.answers = omega (arith, c.requires, c.loop-at-test.true, c.loop-at.invariant.0) in
    let none : Bor (List ℕ) = record { ref_ptr = (0, 0); now = [] } in
    elim c.if-not-answers-at.branch [
      | then-not-answers-at w ↦ (
        c.if-not-answers-at.array_long,
        marked_set c.args.pattern.now c.args.names.now c.loop-at.answers _ c.loop-at.at none _ c.loop-at-test.true room w.if-not-answers-at.true w.stands_for.ensures w.answers-is
            ∙ c.loop-at.invariant.1,
      )
      | else-not-answers-at w ↦ (
        c.if-not-answers-at.array_long,
        marked_kept c.args.pattern.now c.args.names.now c.loop-at.answers _ c.loop-at.at none c.loop-at-test.true room w.if-not-answers-at.false w.answers-is ∙ c.loop-at.invariant.1,
      )
    ]
