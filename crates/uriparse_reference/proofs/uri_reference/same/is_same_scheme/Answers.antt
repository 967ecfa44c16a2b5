use Rattle.std.proofs.Common.{sym, ap, ◌∙◌}
use Rattle.std.proofs.lemmas.Slice.Eq.{bytes_eq-Decides}
use Rattle.uriparse_scheme.specs.Scheme.{text}
use Rattle.uriparse_reference.proofs.lemmas.resolving.RelativizeLemmas.{same_scheme}
use Rattle.uriparse_reference.proofs.uri_reference.same.is_same_scheme.Goals as goal

pub returns : goal.returns
returns c =
    let decides = bytes_eq-Decides c.as_bytes.result.now c.as_bytes-2.result.now in (
      λ h. same_scheme c.args.left.now c.args.right.now c.as_bytes.ensures.valid c.as_bytes-2.ensures.valid
          (sym c.as_bytes.ensures.value ∙ decides.0 (sym c.eq.ensures ∙ h) ∙ c.as_bytes-2.ensures.value),
      λ h. c.eq.ensures ∙ decides.1 (c.as_bytes.ensures.value ∙ ap text h ∙ sym c.as_bytes-2.ensures.value),
    )
