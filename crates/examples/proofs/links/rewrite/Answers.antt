use Rattle.std.proofs.Common.{take}
use Rattle.uriparse.specs.Target.{target}
use Rattle.examples.specs.Links.{IsRefusal}
use Rattle.examples.proofs.ListLemmas.{all_have, images_more, in_place}
use Rattle.examples.proofs.links.rewrite.Goals as goal

pub returns-in-Err-clause-refused : goal.returns-in-Err-clause-refused
returns-in-Err-clause-refused c = record {
  before = all_have (target c.args.base.now) (take c.loop-index.index c.args.links.now) c.loop-index.targets.items c.loop-index.invariant;
  here = in_place (λ link. IsRefusal c.args.base.now link c.in-Err.error) c.args.links.now c.loop-index.index c.index-links-index.result
      c.loop-index-test.true c.index-links-index.is c.in-Err.ensures.err;
}

pub loop-index-preserved : goal.loop-index-preserved
loop-index-preserved c =
    images_more (target c.args.base.now) c.args.links.now c.loop-index.targets.items c.rewrite_one.new.targets.items c.loop-index.index
    c.index-links-index.result c.loop-index-test.true c.index-links-index.is c.loop-index.invariant c.in_default.ensures.ok
