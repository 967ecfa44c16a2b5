use Rattle.std.proofs.Common.{◌≡◌, Some, Ok, refl, ap, sym, subst, ◌∙◌, rules}
use Rattle.uriparse_path.specs.Path as path
use Rattle.uriparse_authority.specs.Authority as authority
use Rattle.uriparse_reference.specs.declared.uri_reference.edit.Edit.TheVariants as edits
use Rattle.uriparse_reference.specs.Reference.{Parts, Valid}
use Rattle.uriparse_reference.specs.Edits.{edited}
use Rattle.uriparse_reference.proofs.lemmas.edits.EditLemmas.{edited_some, valid_some}
use Rattle.uriparse_reference.proofs.uri_reference.URIReference.put_authority.Goals as goal

pub invariant_of-self : goal.invariant_of-self
invariant_of-self c =
    let inside = c.self.inside in
    let old : Parts = record { scheme = inside.scheme; authority = inside.authority; path = inside.path; query = inside.query; fragment = inside.fragment } in
    let put : c.set_absolute.new.self ≡ path.made_absolute inside.path = search rules in
    let given : authority.Valid c.args.authority = search rules in
    subst (λ a. Valid (record {
      scheme = inside.scheme;
      authority = a;
      path = c.set_absolute.new.self;
      query = inside.query;
      fragment = inside.fragment;
    }))
    (sym c.replace-old.ensures.after)
    (valid_some old (Some c.args.authority) c.set_absolute.new.self refl put c.self.invariant given)

pub returns : goal.returns
returns c =
    let inside = c.self.inside in
    let old : Parts = record { scheme = inside.scheme; authority = inside.authority; path = inside.path; query = inside.query; fragment = inside.fragment } in
    let put : c.set_absolute.new.self ≡ path.made_absolute inside.path = search rules in
    ap (λ p. edited p (edits.Authority (Some c.args.authority))) (sym c.self.view_is)
    ∙ edited_some old (Some c.args.authority) c.set_absolute.new.self refl put
    ∙ ap (λ a. Ok (record {
      scheme = inside.scheme;
      authority = a;
      path = c.set_absolute.new.self;
      query = inside.query;
      fragment = inside.fragment;
    }))
    (sym c.replace-old.ensures.after)
