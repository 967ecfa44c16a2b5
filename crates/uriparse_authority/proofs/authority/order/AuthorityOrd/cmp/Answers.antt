use Rattle.std.proofs.Common.{◌∙◌}
use Rattle.uriparse_authority.proofs.lemmas.authorities.OrderLemmas.{ordered}
use Rattle.uriparse_authority.proofs.authority.order.AuthorityOrd.cmp.Goals as goal

pub returns-clause-key : goal.returns-clause-key
returns-clause-key c =
    let valid = c.compare_each.ensures.valid in
    c.compare_each.ensures.test ∙ ordered c.args.self.now c.args.other.now valid.0 valid.1
