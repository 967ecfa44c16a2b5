use Rattle.std.proofs.Common.{◌≡◌, Some, sym, ap, ◌∙◌}
use Rattle.uriparse_reference.specs.declared.uri_reference.edit.Edit.TheVariants as edits
use Rattle.uriparse_reference.specs.Edits.{of_parts}
use Rattle.uriparse_reference.proofs.lemmas.edits.EditLemmas.{build}
use Rattle.uriparse_reference.proofs.lemmas.edits.EditListLemmas.{edited_parts}
use Rattle.uriparse.specs.Kinds.{with_mapped_error}
use Rattle.uriparse.specs.Uri.{map_error}
use Rattle.uriparse.proofs.uri.URI.map_scheme.Goals as goal

pub returns : goal.returns
returns g c =
    let says = c.into_parts-scheme.ensures in
    let given = c.into_parts-scheme.result in
    let made = c.make.result in
    let same : c.from_parts.result ≡ with_mapped_error map_error (of_parts (build (Some made) c.args.self.authority c.args.self.path c.args.self.query c.args.self.fragment)) =
    c.from_parts.ensures
    ∙ ap (λ x. with_mapped_error map_error (of_parts (build (Some made) x given.2 given.3 given.4))) says.authority
    ∙ ap (λ x. with_mapped_error map_error (of_parts (build (Some made) c.args.self.authority x given.3 given.4))) says.path
    ∙ ap (λ x. with_mapped_error map_error (of_parts (build (Some made) c.args.self.authority c.args.self.path x given.4))) says.query
    ∙ ap (λ x. with_mapped_error map_error (of_parts (build (Some made) c.args.self.authority c.args.self.path c.args.self.query x))) says.fragment in
    (given.0, made, says.scheme, c.make.ensures, same ∙ ap (with_mapped_error map_error) (sym (edited_parts c.args.self (edits.Scheme (Some made)) says.valid)))
