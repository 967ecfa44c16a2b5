use Rattle.std.proofs.Common.{◌≡◌, true, Ok, Err, ap, subst, sym, ◌∙◌}
use Rattle.std.proofs.lemmas.Bool.{false≢true}
use Rattle.std.specs.Prelude.{is_some, length}
use Rattle.uriparse_text.specs.declared.segment.error.PathError.TheVariants as paths
use Rattle.uriparse_reference.specs.declared.uri_reference.error.URIReferenceError.TheVariants as references
use Rattle.uriparse_reference.specs.Reference.{Parts, Valid}
use Rattle.uriparse_reference.specs.Normal.{normal}
use Rattle.uriparse_reference.specs.Target.{target}
use Rattle.uriparse_reference.proofs.lemmas.resolving.EqualTargetLemmas.{same_targets}
use Rattle.uriparse.proofs.lemmas.ResolveLemmas.{Answers, refusal_told, commutes_answered}
use Rattle.uriparse.proofs.uri.resolve.URI.resolve.Goals as goal

pub returns-in-Err-clause-answer : goal.returns-in-Err-clause-answer
returns-in-Err-clause-answer c =
    refusal_told (target c.args.self.now c.args.reference.now) c.in-Err.error c.map_error.result c.map_error.ensures
    (subst (λ p. Answers (references.Path paths.ExceededMaximumLength) (references.Path paths.OutOfMemory) (target p c.args.reference.now)
    (Err c.in-Err.error)) c.self.view_is c.in-Err.ensures.answer)

pub returns-in-Err-clause-takes_no_memory : goal.returns-in-Err-clause-takes_no_memory
returns-in-Err-clause-takes_no_memory c base own =
    absurd (false≢true (c.in-Err.ensures.takes_no_memory (subst (λ p. length p.path.segments ≡ 1) (sym c.self.view_is) base) own))

pub returns-in-Err-clause-equal : goal.returns-in-Err-clause-equal
returns-in-Err-clause-equal c b q v w e f =
    same_targets c.args.self.now b c.args.reference.now q (subst Valid c.self.view_is c.resolve.ensures.valid.0) v c.resolve.ensures.valid.1 w e f

pub returns-in-Ok-clause-equal : goal.returns-in-Ok-clause-equal
returns-in-Ok-clause-equal c b q v w e f =
    same_targets c.args.self.now b c.args.reference.now q (subst Valid c.self.view_is c.resolve.ensures.valid.0) v c.resolve.ensures.valid.1 w e f

pub returns-in-Ok-clause-commutes : goal.returns-in-Ok-clause-commutes
returns-in-Ok-clause-commutes c m =
    let base : Parts = c.args.self.now in
    let scheme : is_some base.scheme ≡ true = subst (λ p. is_some p.scheme ≡ true) c.self.view_is c.self.invariant in
    let answer = subst (λ p. Answers (references.Path paths.ExceededMaximumLength) (references.Path paths.OutOfMemory) (target p c.args.reference.now)
    (Ok c.in-Ok.target)) c.self.view_is c.in-Ok.ensures.answer in
    let same = commutes_answered base c.args.reference.now c.in-Ok.target (subst Valid c.self.view_is c.resolve.ensures.valid.0) c.resolve.ensures.valid.1
    scheme answer m in
    (same.0, same.1, ap normal c.of_checked.ensures ∙ same.2)
