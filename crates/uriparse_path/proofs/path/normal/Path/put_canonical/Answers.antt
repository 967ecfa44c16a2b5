use Rattle.std.proofs.Common.{◌≡◌, true, sym, ap, subst, ◌∙◌}
use Rattle.std.specs.List.{list_all}
use Rattle.uriparse_path.specs.Path.{flag}
use Rattle.uriparse_text.specs.Segment.{is_segment}
use Rattle.uriparse_path.specs.Counts.{CountsAreRight, counts}
use Rattle.uriparse_path.proofs.lemmas.text.CanonicalTextLemmas.{counted-canonical}
use Rattle.uriparse_path.proofs.lemmas.list.SegmentCountLemmas.{kept_by, counted_kept}
use Rattle.uriparse_path.proofs.path.normal.Path.put_canonical.Goals as goal

pub invariant_of-self : goal.invariant_of-self
invariant_of-self c =
    let each : list_all is_segment c.self.inside.segments ≡ true = ap (λ p. list_all is_segment p.segments) c.self.view_is ∙ c.requires.listed.each in
    let is = c.self.invariant in
    subst (λ l. CountsAreRight counts l (flag c.self.inside.counts_known) c.of_canonical-counts.result) (sym c.put_copies_in.ensures)
    (kept_by _ (flag c.self.inside.counts_known) _ (counted-canonical c.self.inside.segments (counted_kept _ _ _ is))
    (λ h. c.of_canonical-counts.ensures c.self.inside.segments (is.right h) each))
