use Rattle.std.proofs.Common.{sym, ◌∙◌}
use Rattle.uriparse_path.proofs.lemmas.left.PathWithinLemmas.{meets_ambiguous}
use Rattle.uriparse_path.proofs.path.within.skip.Goals as goal

pub returns-then-is_ambiguous-clause-skips : goal.returns-then-is_ambiguous-clause-skips
returns-then-is_ambiguous-clause-skips g c =
    meets_ambiguous _ c.segments.more _ _ _ c.segments.invariant.0.0 c.in-Some.last c.segments.invariant.0.1 c.segments.invariant.0.2 c.segments-test.true
    c.in-Some.ensures.cut (sym c.is_ambiguous.ensures ∙ c.if-is_ambiguous.true)
