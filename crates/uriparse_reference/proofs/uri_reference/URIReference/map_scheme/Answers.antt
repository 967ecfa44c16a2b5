use Rattle.std.proofs.Common.{refl, sym, ◌∙◌}
use Rattle.uriparse_reference.specs.declared.uri_reference.edit.Edit.TheVariants as edits
use Rattle.uriparse_reference.proofs.lemmas.edits.EditLemmas.{build, remade}
use Rattle.uriparse_reference.proofs.lemmas.edits.EditListLemmas.{edited_parts}
use Rattle.uriparse_reference.proofs.uri_reference.URIReference.map_scheme.Goals as goal

pub returns : goal.returns
returns g c =
    let told = c.into_parts-scheme.ensures in
    let given = c.into_parts-scheme.result in
    let made = c.make.result in
    let same = c.from_parts.ensures
    ∙ remade (build made given.1 given.2 given.3 given.4) (build made c.args.self.authority c.args.self.path c.args.self.query c.args.self.fragment) refl told.authority told.path told.query told.fragment in
    (made, rw told.scheme at c.make.ensures, edited_parts c.args.self (edits.Scheme made) told.valid ∙ sym same)
