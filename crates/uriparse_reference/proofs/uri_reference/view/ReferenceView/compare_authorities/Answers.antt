use Rattle.uriparse_reference.proofs.lemmas.equality.OrderLemmas.{authorities_compared}
use Rattle.uriparse_reference.proofs.uri_reference.view.ReferenceView.compare_authorities.Goals as goal

pub returns : goal.returns
returns c =
    authorities_compared c.args.self.now.parts.authority c.args.other.now.parts.authority c.authority.result c.authority-2.result c.cmp.result
    c.requires.valid.is_authority c.requires.valid_other.is_authority c.authority.ensures c.authority-2.ensures c.cmp.ensures
