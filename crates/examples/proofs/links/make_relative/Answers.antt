use Rattle.examples.proofs.LinkLemmas.{links_more}
use Rattle.examples.proofs.links.make_relative.Goals as goal

pub loop-uri-preserved : goal.loop-uri-preserved
loop-uri-preserved c =
    links_more c.args.base.now c.args.uris.now c.loop-uri.links.items c.push_link.new.links.items c.loop-uri.uri-index c.uri-item.result
    c.loop-uri-test.true c.uri-item.is c.loop-uri.invariant c.in_ok-push_link.ensures
