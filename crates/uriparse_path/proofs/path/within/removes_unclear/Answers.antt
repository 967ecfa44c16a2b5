use Rattle.std.proofs.Common.{refl, sym, ◌∙◌, arith}
use Rattle.uriparse_text.specs.Canonical.{canonical}
use Rattle.uriparse_path.specs.Path.{max_segments}
use Rattle.uriparse_path.specs.Remaining.{nothing, process_one}
use Rattle.uriparse_path.proofs.lemmas.left.NormalSegmentsLemmas.{one_less}
use Rattle.uriparse_path.proofs.lemmas.left.RemovedLemmas.{removed_before, removed_here}
use Rattle.uriparse_path.proofs.path.within.removes_unclear.Goals as goal

pub segments-init : goal.segments-init
segments-init g c = ((nothing, refl, refl), omega (arith, c.requires))

pub returns-then-removes : goal.returns-then-removes
returns-then-removes g c =
    sym (removed_here c.segments.invariant.0.0 _ _ c.in-Some.last c.segments.waiting c.removes.result c.in-Some.ensures c.segments.invariant.0.1 c.removes.ensures
    c.if-removes.true)
    ∙ c.segments.invariant.0.2

pub waiting_before-waiting-requires : goal.waiting_before-waiting-requires
unfolding max_segments
waiting_before-waiting-requires g c = omega (arith, c.segments.invariant.1)

pub segments-preserved : goal.segments-preserved
segments-preserved g c =
    let less = one_less _ _ c.in-Some.last c.in-Some.ensures in (
      (
        process_one (canonical c.in-Some.last) c.segments.invariant.0.0,
        c.waiting_before-waiting.ensures.before c.segments.invariant.0.0 c.segments.invariant.0.1,
        removed_before c.segments.invariant.0.0 _ _ c.in-Some.last c.segments.waiting c.removes.result c.in-Some.ensures c.segments.invariant.0.1
            c.removes.ensures c.if-removes.false
            ∙ c.segments.invariant.0.2,
      ),
      omega (arith, less, c.waiting_before-waiting.ensures.few, c.segments.invariant.1),
    )
