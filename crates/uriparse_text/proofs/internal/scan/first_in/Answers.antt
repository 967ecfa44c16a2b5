use Rattle.std.proofs.Common.{◌<◌, ◌≡◌, length, map, sym, ◌∙◌, arith}
use Rattle.std.specs.Simd.Lanes.{mask_l, chunk}
use Rattle.std.proofs.lemmas.Simd.{leading_from_mask_l, trailing_mask_l, length-chunk}
use Rattle.uriparse_text.proofs.internal.scan.first_in.Goals as goal

pub returns-then-marks-eq0 : goal.returns-then-marks-eq0
returns-then-marks-eq0 g c =
    let p = g.T.ByteTest.passes c.args.test.now in
    let text = c.args.text.now in
    sym (leading_from_mask_l p (chunk c.args.at 16 text) (sym c.marks-marks.ensures ∙ c.if-marks-eq0.true)
    ∙ length-chunk c.args.at 16 text c.requires)

pub returns : goal.returns
returns g c =
    let p = g.T.ByteTest.passes c.args.test.now in
    let run = chunk c.args.at 16 c.args.text.now in
    let long : length run ≡ 16 = length-chunk c.args.at 16 c.args.text.now c.requires in
    let e : c.marks-marks.result ≡ mask_l (map p run) = c.marks-marks.ensures in
    let some : 0 < mask_l (map p run) = omega (arith, c.if-marks-eq0.false) in
    rw e (trailing_mask_l p 64 run (omega arith) some)
