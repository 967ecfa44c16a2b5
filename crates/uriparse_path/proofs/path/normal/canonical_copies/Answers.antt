use Rattle.std.proofs.Common.{◌+◌, ◌++◌, ◌∷◌, [], sym, ap, ◌∙◌, drop}
use Rattle.std.proofs.Common.{arith}
use Rattle.std.proofs.lemmas.Bool.{false≢true}
use Rattle.uriparse_path.specs.Copies.{placed}
use Rattle.uriparse_path.proofs.lemmas.normal.CanonicalCopyLemmas.{copied_kept, copied_more, no_non_canonical, none_left}
use Rattle.uriparse_path.proofs.path.normal.canonical_copies.Goals.{then-not-is_normalized+in_ok-normalized_text+in_ok-push, else-not-is_normalized}
use Rattle.uriparse_path.proofs.path.normal.canonical_copies.Goals as goal

pub loop-at-preserved : goal.loop-at-preserved
loop-at-preserved c =
    let left = placed (c.loop-at.at + 1) (drop (c.loop-at.at + 1) c.args.segments.now) in
    elim c.if-not-is_normalized.branch [
      | then-not-is_normalized+in_ok-normalized_text+in_ok-push w ↦
          ap (λ v. v.items ++ left) w.copies-is
          ∙ ap (λ u. u ++ left) (w.in_ok-push.ensures.items ∙ ap (λ x. c.loop-at.copies.items ++ (c.loop-at.at, x) ∷ []) w.in_ok-normalized_text.ensures)
          ∙ copied_more c.args.segments.now c.loop-at.copies.items (placed 0 c.args.segments.now) c.loop-at.at c.index-segments-at.result
          c.loop-at-test.true c.index-segments-at.is c.loop-at.invariant (λ e. false≢true (sym w.if-not-is_normalized.true ∙ c.is_normalized.ensures.1 e))
      | else-not-is_normalized w ↦
          ap (λ v. v.items ++ left) w.copies-is
          ∙ copied_kept c.args.segments.now c.loop-at.copies.items (placed 0 c.args.segments.now) c.loop-at.at c.index-segments-at.result
          c.loop-at-test.true c.index-segments-at.is c.loop-at.invariant (c.is_normalized.ensures.0 w.if-not-is_normalized.false)
    ]

pub returns-in_err-normalized_text-clause-takes_no_memory : goal.returns-in_err-normalized_text-clause-takes_no_memory
returns-in_err-normalized_text-clause-takes_no_memory c h =
    absurd (no_non_canonical c.args.segments.now c.loop-at.at c.index-segments-at.result c.loop-at-test.true c.index-segments-at.is
    (λ e. false≢true (sym c.if-not-is_normalized.true ∙ c.is_normalized.ensures.1 e)) h)

pub returns-in_err-push-clause-takes_no_memory : goal.returns-in_err-push-clause-takes_no_memory
returns-in_err-push-clause-takes_no_memory c h =
    absurd (no_non_canonical c.args.segments.now c.loop-at.at c.index-segments-at.result c.loop-at-test.true c.index-segments-at.is
    (λ e. false≢true (sym c.if-not-is_normalized.true ∙ c.is_normalized.ensures.1 e)) h)

pub returns-clause-copies : goal.returns-clause-copies
returns-clause-copies c =
    none_left c.args.segments.now c.loop-at.copies.items (placed 0 c.args.segments.now) c.loop-at.at (omega (arith, c.loop-at-test.false)) c.loop-at.invariant
