use Rattle.std.proofs.Common.{◌≡◌, None, false, refl, ap, sym, ◌∙◌}
use Rattle.std.specs.Prelude.{is_some}
use Rattle.uriparse_path.specs.Path.{text}
use Rattle.uriparse_reference.specs.declared.uri_reference.edit.Edit.TheVariants as edits
use Rattle.uriparse_reference.specs.Reference.{Parts, path_refusal}
use Rattle.uriparse_reference.specs.Edits.{edited}
use Rattle.uriparse_reference.proofs.lemmas.edits.EditLemmas.{edited_none, no_refusal, valid_none}
use Rattle.uriparse_reference.proofs.uri_reference.URIReference.remove_authority.Goals.{In-None}
use Rattle.uriparse_reference.proofs.uri_reference.URIReference.remove_authority.Goals as goal

-- the path may be without an authority
fits : (c : In-None) → path_refusal (is_some c.self.inside.scheme) false (text c.self.inside.path) ≡ None
fits c =
    no_refusal (is_some c.self.inside.scheme) false c.is_some.result false (text c.self.inside.path) c.path_conflict.result c.is_some.ensures refl
    c.path_conflict.ensures.refusal c.in-None.is

pub invariant_of-self : goal.invariant_of-self
invariant_of-self c =
    let inside = c.self.inside in
    let old : Parts = record { scheme = inside.scheme; authority = inside.authority; path = inside.path; query = inside.query; fragment = inside.fragment } in
    valid_none old None refl (fits (goal.at.invariant_of-self c).In-None) c.self.invariant

pub returns-in-None : goal.returns-in-None
returns-in-None c =
    let inside = c.self.inside in
    let old : Parts = record { scheme = inside.scheme; authority = inside.authority; path = inside.path; query = inside.query; fragment = inside.fragment } in
    ap (λ p. edited p (edits.Authority None)) (sym c.self.view_is) ∙ edited_none old None refl (fits (goal.at.returns-in-None c).In-None)
