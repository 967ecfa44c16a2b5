use Rattle.std.proofs.Common.{refl, sym, ◌∙◌}
use Rattle.uriparse_reference.specs.declared.uri_reference.edit.Edit.TheVariants as edits
use Rattle.uriparse_reference.proofs.lemmas.edits.EditLemmas.{build, remade}
use Rattle.uriparse_reference.proofs.lemmas.edits.EditListLemmas.{edited_parts}
use Rattle.uriparse_reference.proofs.uri_reference.URIReference.map_authority.Goals as goal

pub returns : goal.returns
returns g c =
    let told = c.into_parts-scheme.ensures in
    let given = c.into_parts-scheme.result in
    let made = c.make.result in
    let same = c.from_parts.ensures
    ∙ remade (build given.0 made given.2 given.3 given.4) (build c.args.self.scheme made c.args.self.path c.args.self.query c.args.self.fragment) told.scheme refl told.path told.query told.fragment in
    (made, rw told.authority at c.make.ensures, edited_parts c.args.self (edits.Authority made) told.valid ∙ sym same)
