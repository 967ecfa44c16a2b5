use Rattle.std.proofs.Common.{ap, ◌∙◌}
use Rattle.uriparse_path.specs.Normal.{is_normal_at}
use Rattle.uriparse_path.specs.Path.{spelled}
use Rattle.uriparse_reference.proofs.lemmas.reading.SpellingLemmas.{same_path}
use Rattle.uriparse_reference.proofs.uri_reference.view.ReferenceView.has_normal_path.Goals as goal

pub returns : goal.returns
returns c =
    let valid = c.path_bytes.ensures.valid in
    c.is_normal_path_text.ensures
    ∙ ap (λ t. is_normal_at c.args.context (spelled t)) c.path_bytes.ensures.text
    ∙ ap (is_normal_at c.args.context) (same_path c.args.self.now.parts.path valid.is_path valid.plain)
