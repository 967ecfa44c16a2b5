use Rattle.std.proofs.Common.{◌≡◌, ◌∙◌, true, drop, ap, sym, subst, arith}
use Rattle.std.specs.List.{list_all, slice_split}
use Rattle.std.proofs.lemmas.List.{take_rest}
use Rattle.uriparse_text.specs.Segment.{is_segment}
use Rattle.uriparse_path.specs.Path.{is_slash}
use Rattle.uriparse_path.specs.Last.{IsLast, IsLastDots}
use Rattle.uriparse_path.specs.Remaining.{IsBackwardState, process_all}
use Rattle.uriparse_path.proofs.lemmas.left.BackwardLemmas.{Walked, walked_all, walked_end, walked_run}
use Rattle.uriparse_path.proofs.lemmas.text.DotCandidateLemmas.{before, before_less, begun, segments_from}
use Rattle.uriparse_path.proofs.lemmas.text.SplitLemmas.{some_pieces}
use Rattle.uriparse_path.proofs.path.text.backward.BackwardState.process.Goals.{In-Some, After-step-state}
use Rattle.uriparse_path.proofs.path.text.backward.BackwardState.process.Goals as goal

last : (c : In-Some) → IsLastDots c.in-Some.at c.dots.rest.now
last c = subst (λ o. IsLast o c.dots.rest.now) c.in-Some.is c.dots.invariant.last

walked : (c : After-step-state)
    → IsLastDots c.in-Some.at c.dots.rest.now
    → Walked c.args.form c.args.ended (slice_split is_slash c.args.text.now) (before c.in-Some.at c.dots.rest.now) c.args.self
    c.step-state.result c.args.out.now c.step-state.new.out
walked c is =
    let rest = c.dots.rest.now in
    let at = c.in-Some.at in
    walked_run c.args.form c.args.ended (slice_split is_slash c.args.text.now) (slice_split is_slash rest)
    (before at rest) (slice_split is_slash (drop at rest)) c.args.self c.dots.state c.step-state.result
    c.args.out.now c.dots.out c.step-state.new.out c.dots.invariant.walked (begun rest at is.begins is.within) (some_pieces (drop at rest))
    c.step-state.ensures.double_dots c.step-state.ensures.room
    (λ l t h. subst (λ u. IsBackwardState c.args.form c.args.ended (process_all (slice_split is_slash u) l) c.step-state.result c.step-state.new.out t)
    (take_rest rest at) (c.step-state.ensures.is l t h))

pub step-state-requires-clause-segments : goal.step-state-requires-clause-segments
step-state-requires-clause-segments c =
    let is = last (goal.at.step-state-requires-clause-segments c).In-Some in
    subst (λ u. list_all is_segment (slice_split is_slash u) ≡ true) (sym (take_rest c.dots.rest.now c.in-Some.at))
    (segments_from c.dots.rest.now c.in-Some.at is.begins is.within c.dots.invariant.walked.each).1

pub returns-then-at-eq0-clause-is : goal.returns-then-at-eq0-clause-is
returns-then-at-eq0-clause-is c = λ l t h.
    let is = last (goal.at.returns-then-at-eq0-clause-is c).In-Some in
    walked_end c.args.form c.args.ended (slice_split is_slash c.args.text.now) (before c.in-Some.at c.dots.rest.now) c.args.self
    c.step-state.result c.args.out.now c.step-state.new.out l t (walked (goal.at.returns-then-at-eq0-clause-is c).After-step-state is)
    (ap (λ n. before n c.dots.rest.now) c.if-at-eq0.true) h

pub last_dots-last-requires : goal.last_dots-last-requires
last_dots-last-requires c =
    let is = last (goal.at.last_dots-last-requires c).In-Some in
    sym (ap (list_all is_segment) (before_less c.dots.rest.now c.in-Some.at (omega (arith, c.if-at-eq0.false))))
    ∙ (segments_from c.dots.rest.now c.in-Some.at is.begins is.within c.dots.invariant.walked.each).0

pub dots-preserved : goal.dots-preserved
dots-preserved c =
    let is = last (goal.at.dots-preserved c).In-Some in
    record {
      walked = subst (λ ss. Walked c.args.form c.args.ended (slice_split is_slash c.args.text.now) ss c.args.self c.step-state.result
          c.args.out.now c.step-state.new.out)
          (before_less c.dots.rest.now c.in-Some.at (omega (arith, c.if-at-eq0.false))) (walked (goal.at.dots-preserved c).After-step-state is);
      last = c.last_dots-last.ensures;
    }

pub returns-clause-is : goal.returns-clause-is
returns-clause-is c = λ l t h.
    walked_all c.args.form c.args.ended (slice_split is_slash c.args.text.now) (slice_split is_slash c.dots.rest.now) c.args.self c.dots.state
    c.stretch.result c.args.out.now c.dots.out c.stretch.new.out l t c.dots.invariant.walked c.stretch.ensures.is h
