use Rattle.uriparse_scheme.specs.Scheme.{canonical_text}
use Rattle.uriparse_reference.proofs.lemmas.equality.OrderLemmas.{options_compared}
use Rattle.uriparse_reference.proofs.uri_reference.view.ReferenceView.compare_schemes.Goals as goal

pub returns : goal.returns
returns c =
    options_compared canonical_text c.args.self.now.parts.scheme c.args.other.now.parts.scheme c.scheme.result c.scheme-2.result c.cmp.result
    c.scheme.ensures c.scheme-2.ensures c.cmp.ensures
