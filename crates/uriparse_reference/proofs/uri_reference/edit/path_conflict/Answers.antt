use Rattle.std.proofs.Common.{◌≡◌, Bool, true, false, cond, ◌||◌, List, ℕ, None, Some, sym, ap, ◌∙◌}
use Rattle.uriparse_path.specs.Path.{has_two_slashes}
use Rattle.uriparse_reference.specs.Reference.{path_refusal, is_noscheme}
use Rattle.uriparse_reference.specs.declared.uri_reference.error.URIReferenceError.TheVariants as errors
use Rattle.uriparse_reference.proofs.uri_reference.edit.path_conflict.Goals as goal

-- two leading slashes are rejected without an authority
twice : (v w : Bool) (t : List ℕ) → w ≡ false → has_two_slashes t ≡ true → Some errors.AbsolutePathStartsWithTwoSlashes ≡ path_refusal v w t
twice v w t e f =
    sym (ap (λ u. path_refusal v u t) e
    ∙ ap (λ u. cond u (Some errors.AbsolutePathStartsWithTwoSlashes) (cond (v || is_noscheme t) None (Some errors.SchemelessPathStartsWithColonSegment))) f)

pub returns-then-starts_with_two_slashes-clause-refusal : goal.returns-then-starts_with_two_slashes-clause-refusal
returns-then-starts_with_two_slashes-clause-refusal c =
    twice c.args.has_scheme c.args.has_authority _ c.if-has_authority.false (sym c.has_two_slashes-starts_with_two_slashes.ensures.answer ∙ c.if-starts_with_two_slashes.true)
