use Rattle.uriparse.specs.Target.{target}
use Rattle.examples.proofs.RedirectLemmas.{unresolved}
use Rattle.examples.proofs.links.rewrite_one.Goals as goal

pub returns-in-Err-clause-err : goal.returns-in-Err-clause-err
returns-in-Err-clause-err c = unresolved (target c.args.base.now c.args.link.now) c.in-Err.error c.in-Err.ensures.answer
