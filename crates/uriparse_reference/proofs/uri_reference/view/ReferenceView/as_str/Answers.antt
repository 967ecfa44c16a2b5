use Rattle.std.proofs.Common.{ap, subst, ◌∙◌}
use Rattle.uriparse_reference.specs.Reference.{Spells}
use Rattle.uriparse_reference.specs.View.{Viewed}
use Rattle.uriparse_reference.proofs.lemmas.reading.AsciiLemmas.{IsUtf8-spelled}
use Rattle.uriparse_reference.proofs.lemmas.reading.ViewLemmas.{found_spelled}
use Rattle.uriparse_reference.proofs.uri_reference.view.ReferenceView.as_str.Goals as goal

pub str_of-requires : goal.str_of-requires
str_of-requires c = IsUtf8-spelled _ _ (found_spelled _ _ _ _ _ _ _ _ _ c.self.invariant)

pub returns-clause-text : goal.returns-clause-text
returns-clause-text c = c.str_of.ensures ∙ ap (λ (v : Viewed). v.text) c.self.view_is

pub returns-clause-spelled : goal.returns-clause-spelled
returns-clause-spelled c = subst (λ v. Spells v.text v.parts) c.self.view_is (found_spelled _ _ _ _ _ _ _ _ _ c.self.invariant)
