use Rattle.examples.proofs.ProxyLemmas.{accepted, has_scheme, unread}
use Rattle.examples.proofs.proxy.proxy_target.Goals as goal

pub returns-in-Ok-clause-only : goal.returns-in-Ok-clause-only
returns-in-Ok-clause-only c u s p =
    accepted c.accept.result c.in-Ok.uri u c.accept.ensures (c.in-Ok.ensures.only u s (has_scheme u p)) p

pub returns-in-Err-clause-only : goal.returns-in-Err-clause-only
returns-in-Err-clause-only c u s p = unread c.in-Err.error u (c.in-Err.ensures.only u s (has_scheme u p))
