use Rattle.std.proofs.Common.{◌∙◌}
use Rattle.uriparse_authority.proofs.lemmas.authorities.OrderLemmas.{host_ordered}
use Rattle.uriparse_authority.proofs.authority.order.HostOrd.cmp.Goals as goal

pub returns-clause-key : goal.returns-clause-key
returns-clause-key c =
    c.compare_ranks.ensures
    ∙ host_ordered c.args.self.now c.args.other.now c.kind_number-kind.ensures.valid c.kind_number-other_kind.ensures.valid
