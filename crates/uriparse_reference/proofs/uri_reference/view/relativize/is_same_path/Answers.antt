use Rattle.std.proofs.Common.{sym, ◌∙◌}
use Rattle.std.proofs.lemmas.Slice.Eq.{bytes_eq-Decides}
use Rattle.uriparse_reference.proofs.lemmas.writing.RelativeTextLemmas.{same_path, same_text}
use Rattle.uriparse_reference.proofs.uri_reference.view.relativize.is_same_path.Goals as goal

pub returns : goal.returns
returns c =
    let left = c.path_bytes.ensures.text in
    let right = c.path_bytes-2.ensures.text in
    let decides = bytes_eq-Decides c.path_bytes.result.now c.path_bytes-2.result.now in (
      λ h. same_path c.args.base.now.parts c.args.target.now.parts _ _ c.path_bytes.ensures.valid c.path_bytes-2.ensures.valid left right (decides.0 (sym c.eq.ensures ∙ h)),
      λ e. c.eq.ensures ∙ decides.1 (same_text c.args.base.now.parts c.args.target.now.parts _ _ left right e),
    )
