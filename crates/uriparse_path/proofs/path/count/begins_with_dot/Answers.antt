use Rattle.std.proofs.Common.{ap, ◌∙◌, slice_get}
use Rattle.uriparse_path.proofs.lemmas.list.SegmentCountLemmas.{canonical_dots, empty_dots}
use Rattle.uriparse_path.proofs.path.count.begins_with_dot.Goals as goal

pub returns-in-Some : goal.returns-in-Some
returns-in-Some c n k =
    canonical_dots c.args.segment.now c.in-Some.field-0.now (c.in-Some.ensures.value ∙ ap (λ s. slice_get s 0) c.as_bytes.ensures.value) n k

pub returns-in-None : goal.returns-in-None
returns-in-None c n k = empty_dots c.args.segment.now (c.in-None.ensures.value ∙ ap (λ s. slice_get s 0) c.as_bytes.ensures.value)
