use Rattle.uriparse_reference.proofs.lemmas.reading.ReadBackLemmas.{normal_stands}
use Rattle.uriparse_reference.proofs.uri_reference.text.ReferenceText.other_normal_text.Goals as goal

pub returns-in_err-normalize_to_string-clause-normal : goal.returns-in_err-normalize_to_string-clause-normal
returns-in_err-normalize_to_string-clause-normal c = normal_stands c.args.self.now.text c.args.self.now.parts c.as_view-view.ensures.spelled

pub returns-clause-normal : goal.returns-clause-normal
returns-clause-normal c = normal_stands c.args.self.now.text c.args.self.now.parts c.as_view-view.ensures.spelled
