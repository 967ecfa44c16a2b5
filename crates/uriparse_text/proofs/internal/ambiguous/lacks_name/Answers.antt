use Rattle.std.proofs.Common.{sym, ◌∙◌}
use Rattle.uriparse_text.specs.Coding.{decoded}
use Rattle.uriparse_text.proofs.lemmas.tokens.AmbiguousLemmas.{first_of_name, no_name}
use Rattle.uriparse_text.proofs.internal.ambiguous.lacks_name.Goals as goal

pub returns-in-Some : goal.returns-in-Some
returns-in-Some c = c.is_name_end.ensures ∙ sym (first_of_name (decoded c.args.text.now) _ c.in-Some.b c.in-Some.ensures)

pub returns-in-None : goal.returns-in-None
returns-in-None c = sym (no_name (decoded c.args.text.now) c.in-None.ensures)
