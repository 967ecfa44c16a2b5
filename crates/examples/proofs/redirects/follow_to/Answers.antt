use Rattle.uriparse.specs.Target.{target}
use Rattle.examples.proofs.RedirectLemmas.{untargeted}
use Rattle.examples.proofs.redirects.follow_to.Goals as goal

pub returns-in-Err : goal.returns-in-Err
returns-in-Err c = untargeted (target c.args.request.now c.args.location.now) c.args.request.now c.args.allowed.now c.in-Err.error c.in-Err.ensures.answer
