use Rattle.std.proofs.Common.{◌+◌, ◌/◌, get_or, bit_and, refl}
use Rattle.std.specs.Simd.Lanes.{zip2, chunk}
use Rattle.std.proofs.lemmas.Simd.{zip2_of_maps}
use Rattle.uriparse_text.specs.declared.internal.canonical_escape.TheConstants.{FIRST_LOW, SHRUNK_FIRST_HIGH, SECOND_LOW, SHRUNK_SECOND_HIGH}
use Rattle.uriparse_text.proofs.lemmas.canonical.ShrunkLemmas.{mark_shrunk, mark_past, none_shrunk}
use Rattle.uriparse_text.proofs.internal.canonical_escape.marks_of_shrunk.Goals as goal

pub returns-clause-marks : goal.returns-clause-marks
returns-clause-marks c k h =
    let text = c.args.text.now in
    let at = c.args.at in
    mark_shrunk text at c.requires (zip2 bit_and c.by_low.result c.by_high.result) (zip2 bit_and c.by_low-2.result c.by_high-2.result)
    (zip2_of_maps bit_and (λ b. get_or FIRST_LOW (bit_and b 15) 0) (λ b. get_or SHRUNK_FIRST_HIGH (b / 16) 0) (chunk (at + 1) 16 text) c.by_low.ensures c.by_high.ensures)
    (zip2_of_maps bit_and (λ b. get_or SECOND_LOW (bit_and b 15) 0) (λ b. get_or SHRUNK_SECOND_HIGH (b / 16) 0) (chunk (at + 2) 16 text) c.by_low-2.ensures c.by_high-2.ensures)
    c.marks-signs.result _ c.marks-signs.ensures refl k h

pub returns-clause-few : goal.returns-clause-few
returns-clause-few c k h =
    let text = c.args.text.now in
    let at = c.args.at in
    mark_past text at c.requires (zip2 bit_and c.by_low.result c.by_high.result) (zip2 bit_and c.by_low-2.result c.by_high-2.result)
    (zip2_of_maps bit_and (λ b. get_or FIRST_LOW (bit_and b 15) 0) (λ b. get_or SHRUNK_FIRST_HIGH (b / 16) 0) (chunk (at + 1) 16 text) c.by_low.ensures c.by_high.ensures)
    (zip2_of_maps bit_and (λ b. get_or SECOND_LOW (bit_and b 15) 0) (λ b. get_or SHRUNK_SECOND_HIGH (b / 16) 0) (chunk (at + 2) 16 text) c.by_low-2.ensures c.by_high-2.ensures)
    c.marks-signs.result _ c.marks-signs.ensures refl k h

pub returns-then-signs-eq0-clause-marks : goal.returns-then-signs-eq0-clause-marks
returns-then-signs-eq0-clause-marks c k h =
    none_shrunk c.args.text.now c.args.at c.marks-signs.result c.requires c.marks-signs.ensures c.if-signs-eq0.true k h
