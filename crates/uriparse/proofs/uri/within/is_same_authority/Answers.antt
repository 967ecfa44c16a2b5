use Rattle.uriparse.proofs.lemmas.WithinLemmas.{same_authority}
use Rattle.uriparse.proofs.uri.within.is_same_authority.Goals as goal

pub returns : goal.returns
returns c =
    same_authority c.args.left.now c.args.right.now c.args.port c.args.other_port c.has_each_alike.result c.host-host.ensures.valid c.host-other_host.ensures.valid
    c.assert_port.ensures c.assert_port-2.ensures c.has_each_alike.ensures
