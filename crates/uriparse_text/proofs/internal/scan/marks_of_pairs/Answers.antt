use Rattle.std.proofs.Common.{◌≡◌, ◌+◌, ◌-◌, arith, subst, ap, ◌∙◌}
use Rattle.std.specs.Int.{bit_at}
use Rattle.std.proofs.lemmas.Nat.Bits.{bit_at-zero}
use Rattle.uriparse_text.specs.Marks.{AreMarks}
use Rattle.uriparse_text.proofs.lemmas.scans.NeighbourLemmas.{pair_marked, pair_past, pair_unmarked}
use Rattle.uriparse_text.proofs.internal.scan.marks_of_pairs.Goals as goal

pub returns-then-before-eq0-clause-others : goal.returns-then-before-eq0-clause-others
returns-then-before-eq0-clause-others g c k past = bit_at-zero k

pub returns-then-before-eq0-clause-marks : goal.returns-then-before-eq0-clause-marks
returns-then-before-eq0-clause-marks g c k within =
    let t = c.args.text.now in
    let at = c.args.at in
    let p = g.T.ByteTest.passes c.args.earlier.now in
    let q = g.U.ByteTest.passes c.args.later.now in
    let long : at - 1 + 16 - (at - 1) ≡ 16 = omega arith in
    let unset : bit_at c.marks_of_run-before.result k ≡ 0 = ap (λ m. bit_at m k) c.if-before-eq0.true ∙ bit_at-zero k in
    bit_at-zero k
    ∙ pair_unmarked p q t (at - 1) at 16 c.marks_of_run-before.result
    (subst (λ n. AreMarks p t (at - 1) n c.marks_of_run-before.result) long c.marks_of_run-before.ensures) k within unset

pub returns-clause-others : goal.returns-clause-others
returns-clause-others g c k past =
    let t = c.args.text.now in
    let at = c.args.at in
    let a = c.marks_of_run-before.result in
    let long : at - 1 + 16 - (at - 1) ≡ 16 = omega arith in
    pair_past (g.T.ByteTest.passes c.args.earlier.now) t (at - 1) 16 a c.marks_of_run.result
    (subst (λ n. AreMarks (g.T.ByteTest.passes c.args.earlier.now) t (at - 1) n a) long c.marks_of_run-before.ensures) k past

pub returns-clause-marks : goal.returns-clause-marks
returns-clause-marks g c k within =
    let t = c.args.text.now in
    let at = c.args.at in
    let p = g.T.ByteTest.passes c.args.earlier.now in
    let q = g.U.ByteTest.passes c.args.later.now in
    let a = c.marks_of_run-before.result in
    let b = c.marks_of_run.result in
    let long : at - 1 + 16 - (at - 1) ≡ 16 = omega arith in
    let same : at + 16 - at ≡ 16 = omega arith in
    pair_marked p q t (at - 1) at 16 a b (subst (λ n. AreMarks p t (at - 1) n a) long c.marks_of_run-before.ensures)
    (subst (λ n. AreMarks q t at n b) same c.marks_of_run.ensures) k within
