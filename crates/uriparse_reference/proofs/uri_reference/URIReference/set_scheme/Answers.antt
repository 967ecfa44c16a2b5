use Rattle.std.proofs.Common.{◌≡◌, None, ap, sym, ◌∙◌, rules}
use Rattle.std.specs.Prelude.{IfSome, is_some}
use Rattle.uriparse_scheme.specs.Scheme as schemes
use Rattle.uriparse_path.specs.Path.{text}
use Rattle.uriparse_reference.specs.declared.uri_reference.edit.Edit.TheVariants as edits
use Rattle.uriparse_reference.specs.Reference.{Parts, path_refusal}
use Rattle.uriparse_reference.specs.Edits.{edited}
use Rattle.uriparse_reference.proofs.lemmas.edits.EditLemmas.{edited_scheme, no_refusal, valid_scheme}
use Rattle.uriparse_reference.proofs.uri_reference.URIReference.set_scheme.Goals.{In-None}
use Rattle.uriparse_reference.proofs.uri_reference.URIReference.set_scheme.Goals as goal

-- the path may follow the new scheme
fits : (c : In-None) → path_refusal (is_some c.args.scheme) (is_some c.self.inside.authority) (text c.self.inside.path) ≡ None
fits c =
    no_refusal (is_some c.args.scheme) (is_some c.self.inside.authority) c.is_some.result c.is_some-2.result (text c.self.inside.path)
    c.path_conflict.result c.is_some.ensures c.is_some-2.ensures c.path_conflict.ensures.refusal c.in-None.is

pub invariant_of-self : goal.invariant_of-self
invariant_of-self c =
    let inside = c.self.inside in
    let old : Parts = record { scheme = inside.scheme; authority = inside.authority; path = inside.path; query = inside.query; fragment = inside.fragment } in
    let is_scheme : IfSome c.args.scheme schemes.Valid = search rules in
    valid_scheme old c.args.scheme c.self.invariant is_scheme (fits (goal.at.invariant_of-self c).In-None)

pub returns-in-None : goal.returns-in-None
returns-in-None c =
    let inside = c.self.inside in
    let old : Parts = record { scheme = inside.scheme; authority = inside.authority; path = inside.path; query = inside.query; fragment = inside.fragment } in
    ap (λ p. edited p (edits.Scheme c.args.scheme)) (sym c.self.view_is)
    ∙ edited_scheme old c.args.scheme (fits (goal.at.returns-in-None c).In-None)
