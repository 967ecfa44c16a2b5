use Rattle.std.proofs.Common.{ap, ◌∙◌}
use Rattle.std.specs.Prelude.{bytes_eq}
use Rattle.uriparse_text.specs.Canonical.{canonical}
use Rattle.uriparse_path.specs.Path.{text}
use Rattle.uriparse_reference.specs.Reference.{Parts}
use Rattle.uriparse_reference.proofs.lemmas.equality.EqualityLemmas.{path_compared}
use Rattle.uriparse_reference.proofs.uri_reference.view.ReferenceView.has_path_of.Goals as goal

pub returns : goal.returns
returns c =
    let there = c.reference.inside.path in
    path_compared c.path_bytes.result.now (text there) c.eq_bytes.result c.path_bytes.ensures.path c.eq_bytes.ensures
    ∙ ap (λ t. bytes_eq (canonical t) (canonical (text there))) c.path_bytes.ensures.text
    ∙ ap (λ (p : Parts). bytes_eq (canonical (text c.args.self.now.parts.path)) (canonical (text p.path))) c.reference.view_is
