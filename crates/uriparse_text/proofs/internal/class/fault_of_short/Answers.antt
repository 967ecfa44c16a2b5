use Rattle.std.proofs.Common.{◌≡◌, ◌+◌, length, refl, subst, arith}
use Rattle.uriparse_text.specs.Faults.{AllFine}
use Rattle.uriparse_text.proofs.lemmas.classes.FaultByByteLemmas.{in_doubt, none_outside, no_fault_offset, last_run}
use Rattle.uriparse_text.proofs.internal.class.fault_of_short.Goals as goal

pub returns-then-outside-eq0 : goal.returns-then-outside-eq0
returns-then-outside-eq0 c =
    let text = c.args.text.now in
    let end : 0 + length text ≡ length text = omega arith in
    no_fault_offset c.args.class text (length text)
    (subst (AllFine c.args.class text 0) end
    (none_outside c.args.class text 0 (length text) (omega arith) c.marks_of_short-outside.result c.marks_of_short-outside.ensures c.if-outside-eq0.true))
    refl

pub fault_at_marks-requires-clause-marks : goal.fault_at_marks-requires-clause-marks
fault_at_marks-requires-clause-marks c =
    in_doubt c.args.class c.args.text.now 0 (length c.args.text.now) (omega arith) c.marks_of_short-outside.result c.marks_of_short-signs.result
    c.marks_of_short-digits.result c.without_triples-left.result c.requires.most c.marks_of_short-outside.ensures c.marks_of_short-signs.ensures
    c.marks_of_short-digits.ensures c.without_triples-left.ensures.no_more c.without_triples-left.ensures.gone

pub returns : goal.returns
returns c =
    rw c.unwrap_or.ensures
    (last_run c.args.class c.args.text.now 0 (0 + length c.args.text.now) c.fault_at_marks.result c.fault_at_marks.ensures
    (λ k low high. absurd (omega arith)) (omega arith))
