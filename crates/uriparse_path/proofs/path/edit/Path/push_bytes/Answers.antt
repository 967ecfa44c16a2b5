use Rattle.std.proofs.Common.{◌≡◌, ◌<◌, ◌≤◌, length, Err, IfErr, sym, subst, ◌∙◌, arith, rules}
use Rattle.uriparse_text.specs.Readings.{SettlesUnless}
use Rattle.uriparse_text.specs.declared.segment.error.PathError.TheVariants.{OutOfMemory}
use Rattle.uriparse_path.specs.Path.{max_segments}
use Rattle.uriparse_path.specs.Edits.{pushing}
use Rattle.uriparse_text.specs.Segment as segment
use Rattle.uriparse_path.proofs.lemmas.reading.ReadingLemmas.{limit_is}
use Rattle.uriparse_path.proofs.lemmas.list.EditLemmas.{full_answer, full_fault, refused_answer, refused_fault}
use Rattle.uriparse_path.proofs.path.edit.Path.push_bytes.Goals.{After-from_residual}
use Rattle.uriparse_path.proofs.path.edit.Path.push_bytes.Goals as goal

pub returns-then-len-ge-MAX_SEGMENTS-clause-answer :
    goal.returns-then-len-ge-MAX_SEGMENTS-clause-answer
returns-then-len-ge-MAX_SEGMENTS-clause-answer c =
    let at : 1000000 ≤ length c.self.inside.segments = omega arith in
    full_answer c.args.self.now (segment.reading c.args.bytes.now)
    (subst (λ p. max_segments ≤ length p.segments) c.self.view_is (subst (λ n. n ≤ length c.self.inside.segments) limit_is at))

pub returns-then-len-ge-MAX_SEGMENTS-clause-always :
    goal.returns-then-len-ge-MAX_SEGMENTS-clause-always
returns-then-len-ge-MAX_SEGMENTS-clause-always c =
    let at : 1000000 ≤ length c.self.inside.segments = omega arith in
    full_fault c.args.self.now (segment.reading c.args.bytes.now)
    (subst (λ p. max_segments ≤ length p.segments) c.self.view_is (subst (λ n. n ≤ length c.self.inside.segments) limit_is at))

room : (c : After-from_residual) → length c.args.self.now.segments < max_segments
room c = subst (λ p. length p.segments < max_segments) c.self.view_is (subst (λ n. length c.self.inside.segments < n) limit_is (omega arith))

read : (c : After-from_residual) → segment.reading c.args.bytes.now ≡ Err c.in_err-try_from_bytes.field-0.0
read c = sym c.try_from_bytes.ensures ∙ c.in_err-try_from_bytes.was

pub returns-in_err-try_from_bytes-clause-answer : goal.returns-in_err-try_from_bytes-clause-answer
returns-in_err-try_from_bytes-clause-answer c =
    let answered : c.from_residual.result ≡ Err c.in_err-try_from_bytes.field-0.0 = search rules in
    subst (λ r. SettlesUnless OutOfMemory c.args.self.now c.args.self.now c.from_residual.result (pushing c.args.self.now r)) (sym (read c))
    (refused_answer c.args.self.now c.in_err-try_from_bytes.field-0.0 c.from_residual.result (room c) answered)

pub returns-in_err-try_from_bytes-clause-always : goal.returns-in_err-try_from_bytes-clause-always
returns-in_err-try_from_bytes-clause-always c =
    let answered : c.from_residual.result ≡ Err c.in_err-try_from_bytes.field-0.0 = search rules in
    subst (λ r. IfErr (pushing c.args.self.now r) (λ e. c.from_residual.result ≡ Err e)) (sym (read c))
    (refused_fault c.args.self.now c.in_err-try_from_bytes.field-0.0 c.from_residual.result (room c) answered)
