use Rattle.std.proofs.Common.{Ok, ap, sym, subst, ◌∙◌}
use Rattle.uriparse_path.specs.Edits.{popped}
use Rattle.uriparse_reference.specs.declared.uri_reference.edit.Edit.TheVariants as edits
use Rattle.uriparse_reference.specs.Reference.{Valid}
use Rattle.uriparse_reference.specs.Edits.{edited}
use Rattle.uriparse_reference.proofs.lemmas.edits.EditLemmas.{build}
use Rattle.uriparse_reference.proofs.lemmas.edits.SegmentLemmas.{valid_popped, edited_popped}
use Rattle.uriparse_reference.proofs.uri_reference.URIReference.pop_segment.Goals as goal

pub invariant_of-self : goal.invariant_of-self
invariant_of-self c =
    let old = c.self.inside in
    subst (λ h. Valid (build old.scheme old.authority h old.query old.fragment)) (sym c.pop.ensures)
    (valid_popped (build old.scheme old.authority old.path old.query old.fragment) c.self.invariant)

pub returns-clause-edited : goal.returns-clause-edited
returns-clause-edited c =
    let old = c.self.inside in
    ap (λ p. edited p (edits.Path (popped p.path))) (sym c.self.view_is)
    ∙ edited_popped (build old.scheme old.authority old.path old.query old.fragment) c.self.invariant
    ∙ ap (λ h. Ok (build old.scheme old.authority h old.query old.fragment)) (sym c.pop.ensures)
