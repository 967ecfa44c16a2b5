use Rattle.std.proofs.Common.{◌≡◌, arith, sym, ap, ◌∙◌, cond, length}
use Rattle.std.specs.Prelude.{◌==◌}
use Rattle.std.proofs.lemmas.Bool.{eq-eqb, ne_eqb}
use Rattle.uriparse_path.proofs.lemmas.list.SegmentCountLemmas.{few, cond_le, counts_joined}
use Rattle.uriparse_path.proofs.path.counts.Counts.joined.Goals.{then-climbing, else-climbing}
use Rattle.uriparse_path.proofs.path.counts.Counts.joined.Goals as goal

pub overflow_add-result : goal.overflow_add-result
overflow_add-result c =
    let one = (few c.args.self c.args.front.now c.requires.front).single in
    let two = (few c.args.more c.args.back.now c.requires.back).single in
    omega (arith, c.requires.room)

pub overflow_add-result-2 : goal.overflow_add-result-2
overflow_add-result-2 c =
    let one = (few c.args.self c.args.front.now c.requires.front).double in
    let two = (few c.args.more c.args.back.now c.requires.back).double in
    omega (arith, c.requires.room)

pub overflow_add-result-3 : goal.overflow_add-result-3
overflow_add-result-3 c =
    let one = (few c.args.self c.args.front.now c.requires.front).leading in
    let two = (few c.args.more c.args.back.now c.requires.back).leading in
    let leads : c.if-climbing.result ≡ cond (c.args.self.leading == length c.args.front.now) c.args.more.leading 0 = elim c.if-climbing.branch [
      | then-climbing w ↦ w.result-is ∙ sym (ap (λ v. cond v c.args.more.leading 0) (eq-eqb _ _ w.if-climbing.true))
      | else-climbing w ↦ w.result-is ∙ sym (ap (λ v. cond v c.args.more.leading 0) (ne_eqb _ _ w.if-climbing.false))
    ] in
    let small = cond_le (c.args.self.leading == length c.args.front.now) c.args.more.leading in
    omega (arith, c.requires.room, leads)

pub overflow_add-result-4 : goal.overflow_add-result-4
overflow_add-result-4 c =
    let one = (few c.args.self c.args.front.now c.requires.front).non_canonical in
    let two = (few c.args.more c.args.back.now c.requires.back).non_canonical in
    omega (arith, c.requires.room)

pub returns : goal.returns
returns c =
    let leads : c.if-climbing.result ≡ cond (c.args.self.leading == length c.args.front.now) c.args.more.leading 0 = elim c.if-climbing.branch [
      | then-climbing w ↦ w.result-is ∙ sym (ap (λ v. cond v c.args.more.leading 0) (eq-eqb _ _ w.if-climbing.true))
      | else-climbing w ↦ w.result-is ∙ sym (ap (λ v. cond v c.args.more.leading 0) (ne_eqb _ _ w.if-climbing.false))
    ] in
    counts_joined c.args.self c.args.more c.args.front.now c.args.back.now c.if-climbing.result c.requires.front c.requires.back leads
