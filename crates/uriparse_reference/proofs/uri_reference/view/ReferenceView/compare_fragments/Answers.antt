use Rattle.uriparse_text.specs.Canonical.{canonical}
use Rattle.uriparse_reference.proofs.lemmas.equality.OrderLemmas.{options_compared}
use Rattle.uriparse_reference.proofs.uri_reference.view.ReferenceView.compare_fragments.Goals as goal

pub returns : goal.returns
returns c =
    options_compared canonical c.args.self.now.parts.fragment c.args.other.now.parts.fragment c.fragment.result c.fragment-2.result c.cmp.result
    c.fragment.ensures c.fragment-2.ensures c.cmp.ensures
