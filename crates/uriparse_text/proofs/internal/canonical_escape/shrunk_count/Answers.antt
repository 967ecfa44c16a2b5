use Rattle.std.proofs.Common.{◌≡◌, ◌+◌, drop, count_ones, arith}
use Rattle.uriparse_text.specs.Escapes.{shrunk_count}
use Rattle.uriparse_text.proofs.lemmas.canonical.ShrunkLemmas.{counted, counted_last, shrunk_few}
use Rattle.uriparse_text.proofs.internal.canonical_escape.shrunk_count.Goals as goal

more : (c : goal.After-marks_of_shrunk) → c.runs.count + count_ones c.marks_of_shrunk.result + shrunk_count (drop (c.runs.at + 16) c.args.text.now) ≡ shrunk_count c.args.text.now
more c =
    let before = c.runs.invariant.0 in
    let here = counted c.args.text.now c.runs.at c.marks_of_shrunk.result 16 (omega arith) c.marks_of_shrunk.ensures.marks c.marks_of_shrunk.ensures.few in
    omega (arith, before, here)

pub overflow_add-count : goal.overflow_add-count
overflow_add-count c = omega (arith, more c, shrunk_few c.args.text.now)

pub runs-preserved : goal.runs-preserved
runs-preserved c = (more c, omega arith)

pub returns : goal.returns
returns c =
    counted_last c.args.text.now c.runs.count c.runs.at c.marks_of_shrunk-2.result c.shifted_down-last.result (omega arith) c.runs.invariant.1
    (omega arith) c.runs.invariant.0 c.marks_of_shrunk-2.ensures.marks c.marks_of_shrunk-2.ensures.few c.shifted_down-last.ensures

pub overflow_add-result : goal.overflow_add-result
overflow_add-result c = omega (arith, returns c, shrunk_few c.args.text.now)
