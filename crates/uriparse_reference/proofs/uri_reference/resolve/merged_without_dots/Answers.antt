use Rattle.std.proofs.Common.{◌≡◌, false, Result, Ok, Err, IfOk, ap, subst}
use Rattle.std.specs.Result.{IsErrAnd}
use Rattle.std.proofs.lemmas.Bool.{false≢true}
use Rattle.uriparse_path.specs.Path.{starts_with_empty_segment}
use Rattle.uriparse_path.specs.Dots.{without_dots}
use Rattle.uriparse_path.specs.Edits.{with_dot_prefix}
use Rattle.uriparse_path.specs.Merge.{merging}
use Rattle.std.specs.Prelude.{if◌then◌else◌}
use Rattle.uriparse_reference.proofs.lemmas.resolving.ResolveLemmas.{made_of, merged_made, not_made}
use Rattle.uriparse_reference.proofs.uri_reference.resolve.merged_without_dots.Goals as goal

-- the error that a result carries
error_is : {A E : Type 0} (result : Result A E) (x : E) → IsErrAnd result (λ e. e ≡ x) → result ≡ Err x
error_is (Err e) x same = ap Err same
error_is (Ok a) x same = absurd same

pub remove_dots-requires : goal.remove_dots-requires
remove_dots-requires c h =
    subst (λ m. IfOk m (λ p. starts_with_empty_segment p.segments ≡ false))
    (made_of c.merged_path.result (merging c.args.base.now c.args.path.now) c.in_ok-merged.merged c.in_ok-merged.was c.merged_path.ensures.answer)
    (c.requires h)

pub returns-in_err-merged-clause-answer : goal.returns-in_err-merged-clause-answer
returns-in_err-merged-clause-answer c =
    let error = c.in_err-merged.field-0.0 in
    not_made (merging c.args.base.now c.args.path.now) c.merged_path.result error c.from_residual.result
    (λ p. if c.args.has_authority then without_dots p else with_dot_prefix (without_dots p)) c.merged_path.ensures.answer c.merged_path.ensures.always
    c.in_err-merged.was (error_is c.from_residual.result error c.from_residual.ensures.1)

pub returns-in_err-merged-clause-takes_no_memory : goal.returns-in_err-merged-clause-takes_no_memory
returns-in_err-merged-clause-takes_no_memory c base own = absurd (false≢true (c.in_err-merged.ensures.takes_no_memory base own))

pub returns-clause-answer : goal.returns-clause-answer
returns-clause-answer c =
    let path = c.in_ok-merged.merged in
    merged_made c.merged_path.result (merging c.args.base.now c.args.path.now) path c.args.has_authority c.remove_dots.new.path c.in_ok-merged.was
    c.merged_path.ensures.answer c.remove_dots.ensures
