use Rattle.std.proofs.Common.{sym, ap, ◌∙◌, ◌&&◌}
use Rattle.std.specs.Prelude.{◌==◌}
use Rattle.std.proofs.lemmas.Bool.{eq-eqb, ne_eqb}
use Rattle.uriparse_path.proofs.lemmas.list.SegmentCountLemmas.{double_dots_told}
use Rattle.uriparse_path.proofs.path.counts.Counts.begins_with_double_dots.Goals as goal

pub returns-then-self-eq0 : goal.returns-then-self-eq0
returns-then-self-eq0 c ss e =
    sym (ap (λ v. v && c.args.self.double == c.args.self.leading) (eq-eqb c.args.self.single 0 c.if-self-eq0.true)) ∙ double_dots_told c.args.self ss e

pub returns-else-self-eq0 : goal.returns-else-self-eq0
returns-else-self-eq0 c ss e =
    let apart = ne_eqb c.args.self.single 0 c.if-self-eq0.false in
    apart ∙ sym (ap (λ v. v && c.args.self.double == c.args.self.leading) apart) ∙ double_dots_told c.args.self ss e
