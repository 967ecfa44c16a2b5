use Rattle.std.proofs.Common.{map, sym, ap, ◌∙◌}
use Rattle.std.specs.Simd.Lanes.{mask_l}
use Rattle.uriparse_text.specs.declared.internal.token.Case.TheVariants.{Lowered}
use Rattle.uriparse_text.specs.declared.internal.canonical.TheConstants.{CHANGE_LOW, CHANGE_HIGH}
use Rattle.uriparse_text.specs.Canonical.{may_change}
use Rattle.uriparse_text.proofs.lemmas.scans.LaneLemmas.{marks_by_tables, change_kind, kept_marks}
use Rattle.uriparse_text.proofs.internal.canonical.MayChangeByteTest.marks.Goals as goal

pub returns-in-Kept : goal.returns-in-Kept
returns-in-Kept c =
    c.marks.ensures ∙ kept_marks c.args.lanes c.fits-lanes ∙ ap (λ k. mask_l (map (may_change k) c.args.lanes)) (sym c.in-Kept.is)

pub returns-in-Lowered : goal.returns-in-Lowered
returns-in-Lowered c =
    marks_by_tables CHANGE_LOW CHANGE_HIGH (may_change Lowered) change_kind c.args.lanes _ _ c.fits-lanes c.by_low.ensures c.by_high.ensures
    ∙ ap (λ k. mask_l (map (may_change k) c.args.lanes)) (sym c.in-Lowered.is)
