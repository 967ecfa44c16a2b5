use Rattle.std.proofs.Common.{◌≡◌, ◌↔◌, true, sym, subst, ◌∙◌}
use Rattle.uriparse_reference.specs.Reference.{print}
use Rattle.uriparse_reference.specs.Normal.{normal}
use Rattle.uriparse_reference.proofs.lemmas.normalizing.NormalizingLemmas.{normal_exactly, kept_whole}
use Rattle.uriparse_reference.proofs.uri_reference.view.ReferenceView.is_normalized.Goals as goal

pub returns-clause-text : goal.returns-clause-text
returns-clause-text c =
    subst (λ v. (v ≡ true) ↔ (print (normal c.args.self.now.parts) ≡ print c.args.self.now.parts)) (sym c.is_normal.ensures)
    (normal_exactly c.args.self.now.parts c.assert_valid.ensures.valid)

pub returns-clause-form : goal.returns-clause-form
returns-clause-form c h =
    kept_whole c.args.self.now.parts c.assert_valid.ensures.valid (sym c.is_normal.ensures ∙ h)
