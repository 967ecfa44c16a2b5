use Rattle.std.proofs.Common.{sym, ap, subst, ◌∙◌, ◌+◌, length, refl}
use Rattle.std.specs.Prelude.{◌==◌}
use Rattle.std.proofs.lemmas.Bool.{false≢true, eqb-true}
use Rattle.std.proofs.lemmas.List.{nil_from_length}
use Rattle.uriparse_path.proofs.lemmas.text.SpelledAlikeLemmas.{IsAlikeFrom, alike_more, other_piece, no_root, alike_ends}
use Rattle.uriparse_path.proofs.path.spells_after_slashes.Goals as goal

pub returns-then-not-rooted : goal.returns-then-not-rooted
returns-then-not-rooted c =
    let l = c.loop-segment in
    let root = c.split_root-rooted in (
      λ h. absurd (false≢true h),
      λ a. absurd (no_root c.args.text.now c.args.segments.now l.segment-index l.rest.now c.segment-item.result l.invariant
          c.loop-segment-test.true c.segment-item.is root.result.0 root.result.1.now root.ensures.root root.ensures.rest c.if-not-rooted.true a),
    )

pub returns-in-None : goal.returns-in-None
returns-in-None c =
    let l = c.loop-segment in
    let root = c.split_root-rooted in
    let alike = rw c.as_bytes.ensures.value at c.in-None.ensures.alike in (
      λ h. absurd (false≢true h),
      λ a. absurd (other_piece c.args.text.now c.args.segments.now l.segment-index l.rest.now c.segment-item.result l.invariant
          c.loop-segment-test.true c.segment-item.is root.result.0 root.result.1.now root.ensures.root root.ensures.rest c.if-not-rooted.false
          (λ s. false≢true (alike.1 s)) a),
    )

pub loop-segment-preserved : goal.loop-segment-preserved
loop-segment-preserved c =
    let l = c.loop-segment in
    let root = c.split_root-rooted in
    let alike = rw c.as_bytes.ensures.value at c.in-Some.ensures.alike in
    subst (IsAlikeFrom c.args.text.now c.args.segments.now (l.segment-index + 1)) (sym c.in-Some.ensures.rest)
    (alike_more c.args.text.now c.args.segments.now l.segment-index l.rest.now c.segment-item.result l.invariant c.loop-segment-test.true c.segment-item.is
    root.result.0 root.result.1.now root.ensures.root root.ensures.rest c.if-not-rooted.false (alike.0 refl))

pub returns : goal.returns
returns c =
    let rest = c.loop-segment.rest.now in
    let ends = alike_ends c.args.text.now rest c.args.segments.now c.loop-segment.segment-index c.loop-segment.invariant c.loop-segment-test.false in
    (λ h. ends.0 (nil_from_length rest (eqb-true (length rest) 0 (sym c.is_empty.ensures ∙ h))), λ s. c.is_empty.ensures ∙ ap (λ t. length t == 0) (ends.1 s))
