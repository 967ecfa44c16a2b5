use Rattle.std.proofs.Common.{[], slice_set, ap, ◌∙◌, arith}
use Rattle.uriparse_path.proofs.lemmas.list.EditLemmas.{set_first}
use Rattle.uriparse_path.proofs.lemmas.list.SegmentCountLemmas.{cleared_kept}
use Rattle.uriparse_path.proofs.path.edit.Path.clear.Goals as goal

pub invariant_of-self : goal.invariant_of-self
invariant_of-self c =
    cleared_kept _ _ (c.put.ensures.items ∙ ap (λ s. slice_set c.truncate.new.self 0 s) c.empty.ensures
    ∙ ap (λ l. slice_set l 0 []) c.truncate.ensures ∙ set_first c.self.inside.segments (omega arith)) c.none-self-inside.ensures
