use Rattle.std.proofs.Common.{◌≡◌, ap, length, take, arith, rules, length-take-le}
use Rattle.std.specs.Prelude.{◌==◌}
use Rattle.uriparse_text.specs.Bytes.{question_mark}
use Rattle.uriparse_text.specs.Cuts.{up_to}
use Rattle.uriparse_path.specs.Offset.{offset_within}
use Rattle.uriparse_path.proofs.lemmas.reading.OffsetLemmas.{offset_of_front, up_to-shorter}
use Rattle.uriparse_path.proofs.path.offset.offset_of_byte.Goals as goal

pub returns-clause-offset : goal.returns-clause-offset
returns-clause-offset c = λ n h.
    let front : length c.split_at_delimiter.result.0.now ≡ offset_within n c.args.text.now =
    offset_of_front n c.offset_of_fault.result c.args.text.now c.split_at.result.0.now c.split_at_delimiter.result.0.now
    c.split_at_delimiter.ensures.front c.split_at.ensures.front c.offset_of_fault.ensures.offset h in
    search rules

pub returns-clause-within : goal.returns-clause-within
returns-clause-within c =
    let front : length c.split_at_delimiter.result.0.now ≡ length (up_to (λ b. b == question_mark) c.split_at.result.0.now) = ap length c.split_at_delimiter.ensures.front in
    let shorter = up_to-shorter (λ b. b == question_mark) c.split_at.result.0.now in
    let fine : length c.split_at.result.0.now ≡ length (take c.offset_of_fault.result c.args.text.now) = ap length c.split_at.ensures.front in
    let cut = length-take-le c.offset_of_fault.result c.args.text.now c.offset_of_fault.ensures.within in
    omega arith
