use Rattle.std.proofs.Common.{◌≤◌, true, length, sym, ap, subst, ◌∙◌}
use Rattle.std.specs.List.{list_all}
use Rattle.uriparse_path.specs.Path.{IsCounted, starts_with_empty_segment}
use Rattle.uriparse_path.specs.Normal.{is_canonical}
use Rattle.uriparse_path.specs.Counts.{counts}
use Rattle.uriparse_path.proofs.lemmas.normal.RelativeFormLemmas.{shaped}
use Rattle.uriparse_path.proofs.lemmas.normal.RelativeLengthLemmas.{counted_shaped}
use Rattle.uriparse_path.proofs.lemmas.list.SegmentCountLemmas.{fits, kept_by, counted_kept, canonical_shaped}
use Rattle.uriparse_path.proofs.path.normal.Path.shape_relative.Goals as goal

pub of-self-inside-requires-clause-short : goal.of-self-inside-requires-clause-short
of-self-inside-requires-clause-short c =
    let left : IsCounted (shaped c.self.inside.segments) =
    counted_shaped c.self.inside.segments (counted_kept _ _ _ c.self.invariant) (ap (λ q. starts_with_empty_segment q.segments) c.self.view_is ∙ c.requires.shown) in
    subst (λ l. length l ≤ 4294967295) (sym (c.as_slice.ensures ∙ c.make_relative.ensures)) (fits _ left.short)

pub of-self-inside-requires-clause-canonical : goal.of-self-inside-requires-clause-canonical
of-self-inside-requires-clause-canonical c =
    ap (list_all is_canonical) (c.as_slice.ensures ∙ c.make_relative.ensures)
    ∙ canonical_shaped c.self.inside.segments (ap (λ q. list_all is_canonical q.segments) c.self.view_is ∙ c.requires.canonical)

pub invariant_of-self : goal.invariant_of-self
invariant_of-self c =
    let left : IsCounted (shaped c.self.inside.segments) =
    counted_shaped c.self.inside.segments (counted_kept _ _ _ c.self.invariant) (ap (λ q. starts_with_empty_segment q.segments) c.self.view_is ∙ c.requires.shown) in
    kept_by c.make_relative.new.list true c.of-self-inside.result (subst IsCounted (sym c.make_relative.ensures) left)
    (λ _. c.of-self-inside.ensures ∙ ap counts c.as_slice.ensures)
