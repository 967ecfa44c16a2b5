use Rattle.std.proofs.Common.{◌≡◌, ◌+◌, ◌-◌, subst, arith}
use Rattle.std.specs.Prelude.{MatchOption}
use Rattle.uriparse_text.specs.Faults.{AllFine, IsFaultFrom}
use Rattle.uriparse_text.proofs.lemmas.classes.FaultByByteLemmas.{in_doubt, none_outside}
use Rattle.uriparse_text.proofs.internal.class.fault_in.Goals as goal

pub returns-then-outside-eq0 : goal.returns-then-outside-eq0
returns-then-outside-eq0 c =
    let end : c.args.from + (c.args.at + 16 - c.args.from) ≡ c.args.at + 16 = omega arith in
    subst (AllFine c.args.class c.args.text.now c.args.from) end
    (none_outside c.args.class c.args.text.now c.args.from (c.args.at + 16 - c.args.from) (omega arith) c.marks_of_run-outside.result
    c.marks_of_run-outside.ensures c.if-outside-eq0.true)

pub fault_at_marks-requires-clause-marks : goal.fault_at_marks-requires-clause-marks
fault_at_marks-requires-clause-marks c =
    in_doubt c.args.class c.args.text.now c.args.from (c.args.at + 16 - c.args.from) (omega arith) c.marks_of_run-outside.result
    c.marks_of_run-signs.result c.marks_of_run-digits.result c.without_triples-left.result (omega arith) c.marks_of_run-outside.ensures
    c.marks_of_run-signs.ensures c.marks_of_run-digits.ensures c.without_triples-left.ensures.no_more c.without_triples-left.ensures.gone

pub returns : goal.returns
returns c =
    let class = c.args.class in
    let text = c.args.text.now in
    let from = c.args.from in
    let end : from + (c.args.at + 16 - from) ≡ c.args.at + 16 = omega arith in
    subst (λ to. MatchOption c.fault_at_marks.result (AllFine class text from to) (λ offset. IsFaultFrom class text from offset)) end
    c.fault_at_marks.ensures
