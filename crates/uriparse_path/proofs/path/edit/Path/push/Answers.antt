use Rattle.std.proofs.Common.{◌<◌, ◌≤◌, length, Ok, ap, ◌∙◌, cond, subst, arith}
use Rattle.uriparse_path.specs.Path.{flag, max_segments}
use Rattle.uriparse_path.specs.Edits.{with_last}
use Rattle.uriparse_path.specs.Counts.{counts}
use Rattle.uriparse_path.proofs.lemmas.reading.ReadingLemmas.{limit_is}
use Rattle.uriparse_path.proofs.lemmas.list.EditLemmas.{full_answer, pushed_answer, pushed_fault}
use Rattle.uriparse_path.proofs.lemmas.list.SegmentCountLemmas.{pushed_kept}
use Rattle.uriparse_path.proofs.path.edit.Path.push.Goals.{After-put_last-result}
use Rattle.uriparse_path.proofs.path.edit.Path.push.Goals as goal

room : (c : After-put_last-result) → length c.self.inside.segments < max_segments
room c = subst (λ n. length c.self.inside.segments < n) limit_is (omega arith)

pub returns-then-len-ge-MAX_SEGMENTS-clause-answer :
    goal.returns-then-len-ge-MAX_SEGMENTS-clause-answer
returns-then-len-ge-MAX_SEGMENTS-clause-answer c =
    let at : 1000000 ≤ length c.self.inside.segments = omega arith in
    full_answer c.args.self.now (Ok c.args.segment)
    (subst (λ p. max_segments ≤ length p.segments) c.self.view_is (subst (λ n. n ≤ length c.self.inside.segments) limit_is at))

pub invariant_of-self : goal.invariant_of-self
invariant_of-self c =
    pushed_kept c.self.inside.segments c.put_last-result.new.segments c.args.segment c.put_last-result.result (flag c.self.inside.counts_known)
    c.self.inside.counts c.pushed_counts-counts.result c.new_or_old-self-inside.result c.self.invariant
    (room (goal.at.invariant_of-self c).After-put_last-result) c.put_last-result.ensures
    (λ h. c.pushed_counts-counts.ensures h ∙ ap (λ l. counts (with_last l c.args.segment)) c.as_slice.ensures)
    (c.new_or_old-self-inside.ensures ∙ ap (λ v. cond v c.pushed_counts-counts.result c.self.inside.counts) c.is_ok.ensures.value)

pub returns-clause-answer : goal.returns-clause-answer
returns-clause-answer c =
    pushed_answer c.args.self.now (flag c.self.inside.absolute) c.self.inside.segments c.put_last-result.new.segments c.args.segment
    c.put_last-result.result c.self.view_is (room (goal.at.returns-clause-answer c).After-put_last-result) c.put_last-result.ensures

pub returns-clause-always : goal.returns-clause-always
returns-clause-always c =
    pushed_fault c.args.self.now (flag c.self.inside.absolute) c.self.inside.segments c.args.segment c.put_last-result.result c.self.view_is
    (room (goal.at.returns-clause-always c).After-put_last-result)
