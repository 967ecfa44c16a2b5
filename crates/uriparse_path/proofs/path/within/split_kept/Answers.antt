use Rattle.std.proofs.Common.{[], ap, subst, sym, ◌∙◌, arith}
use Rattle.uriparse_path.specs.Path.{max_segments}
use Rattle.uriparse_path.specs.Remaining.{process_all}
use Rattle.uriparse_path.specs.Within.{EndsWithKept}
use Rattle.uriparse_path.proofs.lemmas.left.NormalSegmentsLemmas.{before_last, ends_with_kept, one_less}
use Rattle.uriparse_path.proofs.path.within.split_kept.Goals as goal

pub pass-requires : goal.pass-requires
unfolding max_segments
pass-requires g c = omega (arith, c.segments.invariant.1)

pub returns-in-None : goal.returns-in-None
returns-in-None g c =
    subst (EndsWithKept (g.L.SegmentSequence.listed c.args.segments) (g.L.SegmentSequence.listed c.in-Some.front)) (sym c.take.ensures)
    (ends_with_kept _ _ _ c.in-Some.last _ c.segments.invariant.0 c.in-Some.ensures (c.in-None.ensures.passed []) c.segments.invariant.2)

pub segments-preserved : goal.segments-preserved
segments-preserved g c =
    let less = one_less _ _ c.in-Some.last c.in-Some.ensures in (
      ap (process_all (g.L.SegmentSequence.listed c.in-Some.front)) (sym (c.in-Some-pass.ensures.passed []))
          ∙ sym (before_last _ _ c.in-Some.last _ c.in-Some.ensures) ∙ c.segments.invariant.0,
      omega (arith, less, c.in-Some-pass.ensures.few, c.segments.invariant.1),
      omega (arith, less, c.segments.invariant.2),
    )
