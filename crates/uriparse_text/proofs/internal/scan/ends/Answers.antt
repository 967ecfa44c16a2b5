use Rattle.std.proofs.Common.{◌≡◌, ◌-◌, ◌++◌, length, length-append, arith}
use Rattle.std.specs.Simd.Lanes.{chunk}
use Rattle.std.proofs.lemmas.Simd.{pick_l_whole, length-chunk}
use Rattle.uriparse_text.proofs.internal.scan.ends.Goals as goal

pub returns : goal.returns
returns c =
    let text = c.args.text.now in
    let front = chunk 0 8 text in
    let back = chunk (length text - 8) 8 text in
    let front_long = length-chunk 0 8 text (omega (arith, c.requires)) in
    let back_long = length-chunk (length text - 8) 8 text (omega (arith, c.requires)) in
    let both : length (front ++ back) ≡ 16 = omega (arith, c.requires, length-append front back, front_long, back_long) in
    pick_l_whole 0 (front ++ back) 16 both
