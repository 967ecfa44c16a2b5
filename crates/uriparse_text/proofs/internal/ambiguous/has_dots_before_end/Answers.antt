use Rattle.std.proofs.Common.{sym, ◌∙◌}
use Rattle.uriparse_text.specs.Coding.{decoded}
use Rattle.uriparse_text.proofs.lemmas.tokens.AmbiguousLemmas.{one_dot}
use Rattle.uriparse_text.proofs.internal.ambiguous.has_dots_before_end.Goals as goal

pub returns-then-begins_with_end : goal.returns-then-begins_with_end
returns-then-begins_with_end c =
    sym (one_dot (decoded c.args.text.now) (decoded c.in-Some.rest.now) c.in-Some.ensures (sym c.begins_with_end.ensures ∙ c.if-begins_with_end.true))
