use Rattle.std.proofs.Common.{ap, length, map, refl, subst, sym, ◌<◌, ◌∙◌}
use Rattle.std.specs.List.{list_any}
use Rattle.std.proofs.lemmas.Bool.{false≢true}
use Rattle.uriparse_text.specs.Canonical.{canonical}
use Rattle.uriparse_path.specs.Within.{is_unclear, removed_segments}
use Rattle.uriparse_path.proofs.lemmas.left.DirectoryLemmas.{plain_within}
use Rattle.uriparse_path.proofs.lemmas.left.PathWithinLemmas.{left-normal, left-some, within_iff}
use Rattle.uriparse_path.proofs.path.within.is_path_within.Goals as goal

pub returns-then-is_plain-2 : goal.returns-then-is_plain-2
returns-then-is_plain-2 g c =
    plain_within c.args.absolute c.args.base_absolute (g.L.SegmentSequence.listed c.args.segments) (g.L.SegmentSequence.listed c.args.base)
    c.is_in_directory.result c.requires.segments c.requires.base (sym c.is_plain.ensures ∙ c.if-is_plain.true)
    (sym c.is_plain-then-is_plain.ensures ∙ c.if-is_plain-2.true) c.is_in_directory.ensures

pub returns-then-removes_unclear : goal.returns-then-removes_unclear
returns-then-removes_unclear g c =
    let unclear = sym (ap (λ l. list_any is_unclear (removed_segments (map canonical l))) c.again.ensures) ∙ sym c.removes_unclear.ensures ∙ c.if-removes_unclear.true in
    (λ h. absurd (false≢true h), λ w. absurd (false≢true (sym w.1 ∙ unclear)))

pub are_within-requires : goal.are_within-requires
are_within-requires g c κs = (
  (refl, tt),
  (
    c.of-path.ensures.few c.requires.segments.short,
    (
      c.of-directory.ensures.few c.requires.base.short,
      subst (λ l. 0 < length l) (sym c.of-directory.ensures.left) (left-some c.args.base_absolute (g.L.SegmentSequence.listed c.args.base) c.requires.base),
    ),
  ),
)

pub returns : goal.returns
returns g c =
    let clear = sym (ap (λ l. list_any is_unclear (removed_segments (map canonical l))) c.again.ensures) ∙ sym c.removes_unclear.ensures ∙ c.if-removes_unclear.false in
    let iff =
    within_iff c.are_within.result _ _ _ _
    (ap (map canonical) c.of-path.ensures.left ∙ left-normal c.args.absolute (g.L.SegmentSequence.listed c.args.segments) c.requires.segments c.requires.shown)
    (ap (map canonical) c.of-directory.ensures.left
    ∙ left-normal c.args.base_absolute (g.L.SegmentSequence.listed c.args.base) c.requires.base c.requires.shown_base) c.are_within.ensures in
    (λ h. (iff.0 h, clear), λ w. iff.1 w.0)
