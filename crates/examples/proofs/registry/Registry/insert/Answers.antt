use Rattle.std.proofs.Common.{rules, ◌≡◌, false, subst, sym}
use Rattle.examples.specs.Equal.{is_among}
use Rattle.examples.specs.Registry.{AreDistinct}
use Rattle.examples.proofs.RegistryLemmas.{distinct_more}
use Rattle.examples.proofs.registry.Registry.insert.Goals as goal

pub invariant_of-self-2 : goal.invariant_of-self-2
invariant_of-self-2 c =
    let free : is_among c.self.inside.identifiers.items c.args.identifier ≡ false = search rules in
    subst AreDistinct (sym c.in_ok-push.ensures.items) (distinct_more c.self.inside.identifiers.items c.args.identifier c.self.invariant free)
