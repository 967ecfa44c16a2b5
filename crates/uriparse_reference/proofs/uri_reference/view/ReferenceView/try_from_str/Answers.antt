use Rattle.std.proofs.Common.{ap, ◌∙◌}
use Rattle.uriparse_reference.specs.View.{viewed}
use Rattle.uriparse_reference.proofs.lemmas.reading.ViewLemmas.{viewed_again, viewed_faulty, viewed_spelled, viewed_text}
use Rattle.uriparse_reference.proofs.uri_reference.view.ReferenceView.try_from_str.Goals as goal

pub returns-clause-text : goal.returns-clause-text
returns-clause-text c = viewed_text c.args.text.now c.read.result (c.read.ensures ∙ ap viewed c.as_bytes.ensures.value)

pub returns-clause-found : goal.returns-clause-found
returns-clause-found c = viewed_spelled c.args.text.now c.read.result (c.read.ensures ∙ ap viewed c.as_bytes.ensures.value)

pub returns-clause-only : goal.returns-clause-only
returns-clause-only c p s = c.read.ensures ∙ ap viewed c.as_bytes.ensures.value ∙ viewed_again c.args.text.now p s

pub returns-clause-fault : goal.returns-clause-fault
returns-clause-fault c = viewed_faulty c.args.text.now c.read.result (c.read.ensures ∙ ap viewed c.as_bytes.ensures.value)
