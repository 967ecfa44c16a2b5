use Rattle.examples.proofs.RedirectLemmas.{allowed, followed, refused, unread}
use Rattle.examples.proofs.redirects.follow.Goals as goal

pub returns-in-Ok-clause-followed : goal.returns-in-Ok-clause-followed
returns-in-Ok-clause-followed c =
    followed c.args.request.now c.in-Ok.reference c.args.location.now c.args.allowed.now c.follow_to.result c.in-Ok.ensures.found c.follow_to.ensures

pub returns-in-Ok-clause-only : goal.returns-in-Ok-clause-only
returns-in-Ok-clause-only c =
    allowed c.args.request.now c.in-Ok.reference c.args.location.now c.args.allowed.now c.follow_to.result c.in-Ok.ensures.only c.follow_to.ensures

pub returns-in-Ok-clause-refused : goal.returns-in-Ok-clause-refused
returns-in-Ok-clause-refused c =
    refused c.args.request.now c.in-Ok.reference c.args.location.now c.args.allowed.now c.follow_to.result c.in-Ok.ensures.found c.follow_to.ensures

pub returns-in-Err-clause-only : goal.returns-in-Err-clause-only
returns-in-Err-clause-only c t g at = unread c.in-Err.error g.0 (c.in-Err.ensures.only g.0 g.1)
