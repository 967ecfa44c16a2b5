use Rattle.std.proofs.Common.{sym, subst, ◌∙◌}
use Rattle.std.specs.Prelude.{IfSome}
use Rattle.uriparse_text.specs.Fragment.{IsFragment}
use Rattle.uriparse_reference.specs.Reference.{Valid}
use Rattle.uriparse_reference.proofs.lemmas.resolving.RelativizeLemmas.{fit_valid, left_query}
use Rattle.uriparse_reference.proofs.uri_reference.relate.in_place.Goals as goal

pub invariant_of-result : goal.invariant_of-result
invariant_of-result c =
    let valid = subst Valid c.target.view_is c.target.invariant in
    fit_valid c.args.target.now c.empty_path.result c.query_left.result c.borrowed_text.result c.empty_path.ensures
    (left_query c.args.base.now c.args.target.now c.query_left.result valid c.query_left.ensures)
    (subst (λ o. IfSome o IsFragment) (sym (c.borrowed_text.ensures ∙ c.as_ref.ensures.value)) c.target.invariant.is_fragment)
