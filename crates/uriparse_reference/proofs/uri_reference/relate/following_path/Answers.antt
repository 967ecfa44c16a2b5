use Rattle.std.proofs.Common.{sym, subst, ◌∙◌}
use Rattle.std.specs.Prelude.{IfSome}
use Rattle.uriparse_text.specs.Query.{IsQuery}
use Rattle.uriparse_text.specs.Fragment.{IsFragment}
use Rattle.uriparse_reference.specs.Reference.{Valid}
use Rattle.uriparse_reference.proofs.lemmas.resolving.RelativizeLemmas.{inner_valid}
use Rattle.uriparse_reference.proofs.uri_reference.relate.following_path.Goals as goal

pub invariant_of-result : goal.invariant_of-result
invariant_of-result c =
    let valid = subst Valid c.target.view_is c.target.invariant in
    inner_valid c.args.base.now c.args.target.now c.args.path c.borrowed_text.result c.borrowed_text-2.result valid
    c.requires
    (subst (λ o. IfSome o IsQuery) (sym (c.borrowed_text.ensures ∙ c.as_ref.ensures.value)) c.target.invariant.is_query)
    (subst (λ o. IfSome o IsFragment) (sym (c.borrowed_text-2.ensures ∙ c.as_ref-2.ensures.value)) c.target.invariant.is_fragment)
