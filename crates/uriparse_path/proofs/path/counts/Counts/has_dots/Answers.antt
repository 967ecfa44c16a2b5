use Rattle.std.proofs.Common.{sym, ap, ◌∙◌, ◌||◌, not}
use Rattle.std.specs.Prelude.{◌==◌}
use Rattle.std.proofs.lemmas.Bool.{eq-eqb, ne_eqb}
use Rattle.uriparse_path.proofs.lemmas.list.SegmentCountLemmas.{dots_told}
use Rattle.uriparse_path.proofs.path.counts.Counts.has_dots.Goals as goal

pub returns-then-self-ne0 : goal.returns-then-self-ne0
returns-then-self-ne0 c ss e =
    let some = ap not (ne_eqb c.args.self.single 0 c.if-self-ne0.true) in
    some ∙ sym (ap (λ v. v || not (c.args.self.double == 0)) some) ∙ dots_told c.args.self ss e

pub returns-else-self-ne0 : goal.returns-else-self-ne0
returns-else-self-ne0 c ss e =
    sym (ap (λ v. v || not (c.args.self.double == 0)) (ap not (eq-eqb c.args.self.single 0 c.if-self-ne0.false))) ∙ dots_told c.args.self ss e
