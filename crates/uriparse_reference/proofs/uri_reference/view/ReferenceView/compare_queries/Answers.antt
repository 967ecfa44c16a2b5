use Rattle.uriparse_text.specs.Canonical.{canonical}
use Rattle.uriparse_reference.proofs.lemmas.equality.OrderLemmas.{options_compared}
use Rattle.uriparse_reference.proofs.uri_reference.view.ReferenceView.compare_queries.Goals as goal

pub returns : goal.returns
returns c =
    options_compared canonical c.args.self.now.parts.query c.args.other.now.parts.query c.query.result c.query-2.result c.cmp.result
    c.query.ensures c.query-2.ensures c.cmp.ensures
