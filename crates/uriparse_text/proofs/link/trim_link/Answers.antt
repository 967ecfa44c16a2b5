use Rattle.std.proofs.Common.{◌≡◌, ◌∙◌, rules}
use Rattle.uriparse_text.specs.Link.{link}
use Rattle.uriparse_text.proofs.lemmas.readings.LinkLemmas.{link-plain}
use Rattle.uriparse_text.proofs.link.trim_link.Goals as goal

pub returns-in-Some-clause-kept : goal.returns-in-Some-clause-kept
returns-in-Some-clause-kept c = λ no_space no_bracket.
    let is : c.trimmed-in-Some.result.now ≡ link c.args.text.now = search rules in
    is ∙ link-plain c.args.text.now no_space no_bracket

pub returns-in-None-clause-kept : goal.returns-in-None-clause-kept
returns-in-None-clause-kept c = λ no_space no_bracket.
    let is : c.trimmed-text.result.now ≡ link c.args.text.now = search rules in
    is ∙ link-plain c.args.text.now no_space no_bracket
